-- Where the parts of a store begin.
use Rattle.std.proofs.Common.{◌≡◌, ℕ, suc, ◌+◌, ◌*◌, ◌<◌, ◌≤◌, ◌++◌, List, replicate, sum, refl, ap, ◌∙◌, suc-mul, arith}
use Rattle.std.proofs.Math.Nat.{mul-le-mul_right}
use Rattle.std.proofs.lemmas.List.{length-replicate}
use Rattle.page_store.specs.declared.pages.Sizes.{Sizes}
use Rattle.page_store.specs.PageOrder.{start_of, repeated, parts, job_parts, job_part}
use Rattle.page_store.proofs.Parts.{start_of-append_left, start_of-append_right, start_of-replicate, start_of-repeated}

pub sum-parts : (sizes : Sizes) → sum (parts sizes) ≡ 5 + 16 * sizes.table + 16 * sizes.index + 8 * (4 + sizes.out + 2 * sizes.image + sizes.spill)
unfolding parts
sum-parts sizes = omega arith

tables : Sizes → List ℕ
tables sizes = replicate 16 sizes.table

indexes : Sizes → List ℕ
indexes sizes = replicate 16 sizes.index

jobs : Sizes → List ℕ
jobs sizes = repeated 8 (job_parts sizes)

behind_head : (sizes : Sizes) (k : ℕ) → start_of (parts sizes) (3 + k) ≡ 5 + start_of (tables sizes ++ (indexes sizes ++ jobs sizes)) k
unfolding parts tables indexes jobs
behind_head sizes k = let at : 3 + k ≡ suc (suc (suc k)) = omega arith in rw at (omega arith)

pub start_of-table : (sizes : Sizes) (k : ℕ) → k ≤ 16 → start_of (parts sizes) (3 + k) ≡ 5 + k * sizes.table
unfolding tables
start_of-table sizes k within =
    behind_head sizes k ∙ ap (λ n. 5 + n) (start_of-append_left (tables sizes) (indexes sizes ++ jobs sizes) k (omega (arith, within, length-replicate 16 sizes.table)) ∙ start_of-replicate 16 sizes.table k within)

behind_tables : (sizes : Sizes) (k : ℕ) → start_of (parts sizes) (19 + k) ≡ 5 + 16 * sizes.table + start_of (indexes sizes ++ jobs sizes) k
unfolding tables
behind_tables sizes k =
    let at : 19 + k ≡ 3 + (16 + k) = omega arith in
    let all = start_of-replicate 16 sizes.table 16 (omega arith) in
    let right = start_of-append_right (tables sizes) (indexes sizes ++ jobs sizes) (16 + k) k (omega (arith, length-replicate 16 sizes.table)) in
    rw at (behind_head sizes (16 + k) ∙ omega (arith, right, all))

pub start_of-index : (sizes : Sizes) (k : ℕ) → k ≤ 16 → start_of (parts sizes) (19 + k) ≡ 5 + 16 * sizes.table + k * sizes.index
unfolding indexes
start_of-index sizes k within =
    behind_tables sizes k ∙ ap (λ n. 5 + 16 * sizes.table + n) (start_of-append_left (indexes sizes) (jobs sizes) k (omega (arith, within, length-replicate 16 sizes.index)) ∙ start_of-replicate 16 sizes.index k within)

behind_indexes : (sizes : Sizes) (k : ℕ) → start_of (parts sizes) (35 + k) ≡ 5 + 16 * sizes.table + 16 * sizes.index + start_of (jobs sizes) k
unfolding indexes
behind_indexes sizes k =
    let at : 35 + k ≡ 19 + (16 + k) = omega arith in
    let all = start_of-replicate 16 sizes.index 16 (omega arith) in
    let right = start_of-append_right (indexes sizes) (jobs sizes) (16 + k) k (omega (arith, length-replicate 16 sizes.index)) in
    rw at (behind_tables sizes (16 + k) ∙ omega (arith, right, all))

-- a part of a job
pub start_of-job : (sizes : Sizes) (job k : ℕ) → job < 8 → k ≤ 8
    → start_of (parts sizes) (job_part job k)
    ≡ 5 + 16 * sizes.table + 16 * sizes.index + job * (4 + sizes.out + 2 * sizes.image + sizes.spill) + start_of (job_parts sizes) k
unfolding jobs
start_of-job sizes job k before within =
    let at : job_part job k ≡ 35 + (job * 8 + k) = omega arith in
    let each : start_of (job_parts sizes) 8 ≡ 4 + sizes.out + 2 * sizes.image + sizes.spill = omega arith in
    let mine = start_of-repeated 8 (job_parts sizes) job k before within in
    rw at (behind_indexes sizes (job * 8 + k) ∙ omega (arith, mine, ap (λ n. job * n) each))

-- a part of a job, from the job's first page
pub start_of-in_job : (sizes : Sizes) (job k : ℕ) → job < 8 → k ≤ 8
    → start_of (parts sizes) (job_part job k) ≡ start_of (parts sizes) (job_part job 0) + start_of (job_parts sizes) k
start_of-in_job sizes job k before within =
    let mine = start_of-job sizes job k before within in
    let first = start_of-job sizes job 0 before (omega arith) in
    omega (arith, mine, first)

in_order : (k job each : ℕ) → k < job → 4 ≤ each → k * each + 4 ≤ job * each
in_order k job each before some = let less : suc k * each ≤ job * each = mul-le-mul_right each (omega arith) in omega (arith, less, suc-mul k each)

-- the first page of a job
job_start : (sizes : Sizes) (job each : ℕ) → each ≡ 4 + sizes.out + 2 * sizes.image + sizes.spill → job < 8
    → start_of (parts sizes) (job_part job 0) ≡ 5 + 16 * sizes.table + 16 * sizes.index + job * each
job_start sizes job each is before = start_of-job sizes job 0 before (omega arith) ∙ rw is (omega arith)

pub job_behind : (sizes : Sizes) (job : ℕ) → job < 8 → 5 ≤ start_of (parts sizes) (job_part job 0)
job_behind sizes job before = omega (arith, job_start sizes job (4 + sizes.out + 2 * sizes.image + sizes.spill) refl before)

pub job_second : (sizes : Sizes) (job : ℕ) → job < 8 → start_of (parts sizes) (job_part job 1) ≡ start_of (parts sizes) (job_part job 0) + 1
job_second sizes job before = start_of-in_job sizes job 1 before (omega arith) ∙ omega arith

pub job_before : (sizes : Sizes) (k job : ℕ) → k < job → job < 8 → start_of (parts sizes) (job_part k 0) + 2 ≤ start_of (parts sizes) (job_part job 0)
job_before sizes k job earlier before =
    let each = 4 + sizes.out + 2 * sizes.image + sizes.spill in
    let mine = job_start sizes job each refl before in
    let other = job_start sizes k each refl (omega arith) in
    omega (arith, mine, other, in_order k job each earlier (omega arith))

pub job_within : (sizes : Sizes) (job : ℕ) → job < 8 → start_of (parts sizes) (job_part job 0) + 2 ≤ sum (parts sizes)
job_within sizes job before =
    let each = 4 + sizes.out + 2 * sizes.image + sizes.spill in
    let mine = job_start sizes job each refl before in
    omega (arith, mine, sum-parts sizes, in_order job 8 each before (omega arith))
