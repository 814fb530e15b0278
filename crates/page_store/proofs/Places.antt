-- Twins and areas lie apart.
use Rattle.std.proofs.Common.{◌≡◌, ◌⊎◌, ℕ, zero, suc, ◌+◌, ◌-◌, ◌*◌, ◌%◌, ◌<◌, ◌≤◌, true, slice_index, refl, inl, inr, arith}
use Rattle.std.proofs.lemmas.Bool.{cases_lt}
use Rattle.std.proofs.lemmas.Bool.Decides.{nat_tests}
use Rattle.page_store.specs.declared.pages.Sizes.{Sizes}
use Rattle.page_store.specs.PageOrder.{job_part, parts, start_of}
use Rattle.page_store.specs.Store.{is_area_part, twin_at, twin_part, twin_span}
use Rattle.page_store.proofs.Parts.{apart}
use Rattle.page_store.proofs.AreaLaws.{get-job, length-parts}
use Rattle.page_store.proofs.PageLaws.{job_second}

pub catalogue_start : (sizes : Sizes) → start_of (parts sizes) 1 ≡ 1
unfolding parts
catalogue_start sizes = omega arith

catalogue_second : (sizes : Sizes) → start_of (parts sizes) 2 ≡ 3
unfolding parts
catalogue_second sizes = omega arith

catalogue_size : (sizes : Sizes) → slice_index (parts sizes) 2 ≡ 2
unfolding parts
catalogue_size sizes = refl

-- the first page is the store head's
pub behind_head : (sizes : Sizes) (q : ℕ) → 0 < q → 1 ≤ start_of (parts sizes) q
unfolding parts
behind_head sizes zero some = absurd (omega arith)
behind_head sizes (suc q) some = omega arith

part_some : (k : ℕ) → 0 < twin_part k
part_some zero = omega arith
part_some (suc job) = omega arith

pub twin_behind_head : (sizes : Sizes) (k : ℕ) → 4096 ≤ twin_at sizes k
twin_behind_head sizes k = omega (arith, behind_head sizes (twin_part k) (part_some k))

-- a twin ends before a part behind its slots
pub twin_before : (sizes : Sizes) (k q : ℕ) → k < 9 → twin_part k + 1 < q → twin_at sizes k + 2 * twin_span k ≤ 4096 * start_of (parts sizes) q
twin_before sizes zero q some behind =
    let law = apart (parts sizes) 2 q (omega arith) (omega (arith, length-parts sizes)) in
    omega (arith, law, catalogue_start sizes, catalogue_second sizes, catalogue_size sizes)
twin_before sizes (suc job) q some behind =
    let law = apart (parts sizes) (job_part job 1) q (omega arith) (omega (arith, some, length-parts sizes)) in
    let size = get-job sizes job 1 (omega arith) (omega arith) in
    omega (arith, law, size, job_second sizes job (omega arith))

part_small : (k : ℕ) → k < 9 → twin_part k < 98
part_small zero some = omega arith
part_small (suc job) some = omega arith

-- and begins behind the end of an earlier one
pub twin_behind : (sizes : Sizes) (k q : ℕ) → k < 9 → q < twin_part k → 4096 * start_of (parts sizes) q + 4096 * slice_index (parts sizes) q ≤ twin_at sizes k
twin_behind sizes k q some before =
    let law = apart (parts sizes) q (twin_part k) before (omega (arith, before, part_small k some, length-parts sizes)) in
    omega (arith, law)

pub twins_apart : (k j : ℕ) → k < j → twin_part k + 1 < twin_part j
twins_apart zero zero before = absurd (omega arith)
twins_apart zero (suc j) before = omega arith
twins_apart (suc k) zero before = absurd (omega arith)
twins_apart (suc k) (suc j) before = omega arith

pub area_below : (a : ℕ) → is_area_part a ≡ true → a < 99
area_below a is = grind (arith, nat_tests)

pub area_above : (a : ℕ) → is_area_part a ≡ true → 3 ≤ a
area_above a is = grind (arith, nat_tests)

in_job : (a : ℕ) → is_area_part a ≡ true → (a < 35) ⊎ (2 ≤ (a - 35) % 8)
in_job a is = elim (cases_lt a 35) [ inl low ↦ inl low | inr high ↦ inr (grind (arith, nat_tests)) ]

not_slot : (a job : ℕ) → 2 ≤ (a - 35) % 8 → 35 + 8 * job ≤ a → 35 + 8 * job + 1 < a
not_slot a job rest high = omega arith

-- an area is no slot of a twin
pub area_apart : (a k : ℕ) → is_area_part a ≡ true → k < 9 → (a < twin_part k) ⊎ (twin_part k + 1 < a)
area_apart a zero is some = inr (let low = area_above a is in omega arith)
area_apart a (suc job) is some = elim (cases_lt a (35 + 8 * job)) [
  | inl low ↦ inl (omega arith)
  | inr high ↦ elim (in_job a is) [
    | inl early ↦ absurd (omega arith)
    | inr rest ↦ inr (let far = not_slot a job rest high in omega arith)
  ]
]
