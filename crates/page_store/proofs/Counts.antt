-- The device writes of a commit.
use Rattle.std.proofs.Common.{◌≡◌, ℕ, suc, ◌+◌, ◌<◌, ◌≤◌, Bool, true, false, nat_le, if◌then◌else◌, ap, sym, inl, inr, arith, ◌∙◌}
use Rattle.std.proofs.lemmas.Bool.{lt-leb}
use Rattle.disk_model.proofs.Runs.{count_after-more}
use Rattle.qsr_value.specs.Causes.{CountsAtMost, count_after, next_count}
use Rattle.page_store.specs.Store.{HasCommitWrites, slot_pages}

-- the gate that is closed where it is open
pub most_gate : (is_open : Bool) {old new : ℕ} → new ≡ (if is_open then next_count old else old) → CountsAtMost 1 old new
most_gate true one = record { calls = 1; few = omega arith; exact = one }
most_gate false none = record { calls = 0; few = omega arith; exact = none }

one_page : (small : Bool) → 1 ≤ (if small then 1 else 2)
one_page true = omega arith
one_page false = omega arith

-- what is written behind a gate: a first page, and a second where the body is long
pub most_front : {old new : ℕ} (len : ℕ) → new ≡ next_count old → CountsAtMost (slot_pages len) old new
most_front len one = record { calls = 1; few = one_page (nat_le len 4088); exact = one }

pub most_behind : {old new : ℕ} (len : ℕ) → 4088 < len → new ≡ count_after 2 old → CountsAtMost (slot_pages len) old new
most_behind len long two = record {
  calls = 2;
  few = let pages : slot_pages len ≡ 2 = ap (λ (small : Bool). if small then 1 else 2) (lt-leb len 4088 long) in omega (arith, pages);
  exact = two;
}

-- A slot is replaced: its gate is closed where it is open, its pages are written, its gate is opened.
pub replace_writes : (is_open : Bool) (len old shut behind new : ℕ) → shut ≡ (if is_open then next_count old else old) → behind ≡ count_after (slot_pages len) shut
    → new ≡ next_count behind → new ≡ count_after (slot_pages len + (if is_open then 2 else 1)) old
replace_writes true len old shut behind new closed written opened =
    let pages = slot_pages len in
    let calls : suc (pages + 1) ≡ pages + 2 = omega arith in
    opened ∙ ap next_count (written ∙ ap (count_after pages) closed ∙ sym (count_after-more pages 1 old)) ∙ ap (λ (n : ℕ). count_after n old) calls
replace_writes false len old shut behind new closed written opened =
    let pages = slot_pages len in
    let calls : suc pages ≡ pages + 1 = omega arith in
    opened ∙ ap next_count (written ∙ ap (count_after pages) closed) ∙ ap (λ (n : ℕ). count_after n old) calls

pub commit_writes : (is_open : Bool) (len old new : ℕ) → new ≡ count_after (slot_pages len + (if is_open then 2 else 1)) old → HasCommitWrites len old new
commit_writes true len old new replaced = inr replaced
commit_writes false len old new replaced = inl replaced
