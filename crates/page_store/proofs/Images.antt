-- What writes leave of a store that is being made.
use Rattle.std.proofs.Common.{◌≡◌, ◌⊎◌, ℕ, zero, suc, ◌+◌, ◌*◌, ◌<◌, ◌≤◌, List, [], ◌∷◌, length, slice_index, refl, ap, sym, subst, inl, inr, arith, ◌∙◌}
use Rattle.std.proofs.lemmas.Bool.Decides.{eqb_tells}
use Rattle.disk_model.specs.Image.{Image, Holds, SameOutside}
use Rattle.disk_model.specs.View.{View, After, EachImage}
use Rattle.page_store.specs.declared.pages.Sizes.{Sizes}
use Rattle.page_store.specs.declared.records.TheConstants.{OPEN, CLOSED}
use Rattle.page_store.specs.Format.{IsNew, IsNewJob, IsNewTwin, IsNoStore, IsWritten, SameBelow, empty_catalogue, free_head, head_bytes, behind_gate, head_rest, slot_bytes, slot_front}
use Rattle.page_store.specs.PageOrder.{parts, job_part, start_of}
use Rattle.page_store.proofs.PageLaws.{job_behind, job_before, job_second}

pub length-slot_bytes : (gate sequence : ℕ) (body : List ℕ) → length (slot_bytes gate sequence body) ≡ 8 + length body
unfolding slot_front behind_gate
length-slot_bytes gate sequence body = omega arith

pub length-head_rest : (sizes : Sizes) → length (head_rest sizes) ≡ 30
unfolding head_rest
length-head_rest sizes = refl

pub SameBelow-twice : (n : ℕ) (a b c : Image) → SameBelow n a b → SameBelow n b c → SameBelow n a c
SameBelow-twice n a b c first second = record { each = λ i below. second.each i below ∙ first.each i below }

pub SameBelow-fewer : (m n : ℕ) (a b : Image) → m ≤ n → SameBelow n a b → SameBelow m a b
SameBelow-fewer m n a b le same = record { each = λ i below. same.each i (omega arith) }

pub SameBelow-written : (m at n : ℕ) (a b : Image) → m ≤ at → SameOutside at n a b → SameBelow m a b
SameBelow-written m at n a b le same = record { each = λ i below. same.below i (omega arith) }

-- bytes that stand below the place where a write begins
pub holds_below : (c d : Image) (at n : ℕ) (bytes : List ℕ) → at + length bytes ≤ n → SameBelow n c d → Holds c at bytes → Holds d at bytes
holds_below c d at n bytes within same stands = λ i inside. same.each (at + i) (omega arith) ∙ stands i inside

-- a twin is kept where its bytes are
twin_same : (c d : Image) (first second : ℕ) (body : List ℕ) → first < second → length body ≤ 4088
    → ((i : ℕ) → 4096 * first ≤ i → i ≤ 4096 * second → d i ≡ c i) → IsNewTwin c first second body → IsNewTwin d first second body
twin_same c d first second body order long same twin = record {
  slot = λ i inside. same (4096 * first + i) (omega arith) (omega (arith, inside, order, long, length-slot_bytes OPEN 0 body)) ∙ twin.slot i inside;
  closed = same (4096 * second) (omega arith) (omega arith) ∙ twin.closed;
}

-- under writes behind it
pub twin_kept : (c d : Image) (first second n : ℕ) (body : List ℕ) → first < second → length body ≤ 4088 → 4096 * second < n
    → SameBelow n c d → IsNewTwin c first second body → IsNewTwin d first second body
twin_kept c d first second n body order long below same = twin_same c d first second body order long (λ i low high. same.each i (omega arith))

-- under the write of the store's gate
twin_behind : (c d : Image) (first second : ℕ) (body : List ℕ) → 1 ≤ first → first < second → length body ≤ 4088
    → SameOutside 0 1 c d → IsNewTwin c first second body → IsNewTwin d first second body
twin_behind c d first second body some order long same = twin_same c d first second body order long (λ i low high. same.above i (omega arith))

-- a slot that was written, and then the gate of the other
pub twin_written : (c d : Image) (first second : ℕ) (body : List ℕ) → first < second → length body ≤ 4088
    → Holds c (4096 * first) (slot_bytes OPEN 0 body) → SameOutside (4096 * second) 1 c d → Holds d (4096 * second) (CLOSED ∷ [])
    → IsNewTwin d first second body
twin_written c d first second body order long slot same closed = record {
  slot = λ i inside. same.below (4096 * first + i) (omega (arith, inside, order, long, length-slot_bytes OPEN 0 body)) ∙ slot i inside;
  closed = let at : 4096 * second ≡ 4096 * second + 0 = omega arith in ap d at ∙ closed 0 (omega arith);
}

-- the gate of a store stays as it is
pub no_store_kept : (c d : Image) → IsNoStore c → SameBelow 1 c d → IsNoStore d
no_store_kept c d closed same = λ is_open. closed (sym (same.each 0 (omega arith)) ∙ is_open)

-- all parts of a store but its gate
pub parts_written : (sizes : Sizes) (a b c : Image) → Holds a 1 (head_rest sizes) → SameBelow 4096 a b → IsNewTwin b 1 3 empty_catalogue
    → SameBelow (4096 * 5) b c → ((job : ℕ) → job < 8 → IsNewJob sizes c job) → IsWritten sizes c
parts_written sizes a b c head first catalogue second jobs = record {
  head = holds_below b c 1 (4096 * 5) (head_rest sizes) (omega (arith, length-head_rest sizes)) second
      (holds_below a b 1 4096 (head_rest sizes) (omega (arith, length-head_rest sizes)) first head);
  catalogue = twin_kept b c 1 3 (4096 * 5) empty_catalogue (omega arith) (omega arith) (omega arith) second catalogue;
  jobs = jobs;
}

-- the write of the gate leaves them
written_behind : (sizes : Sizes) (c d : Image) → SameOutside 0 1 c d → IsWritten sizes c → IsWritten sizes d
written_behind sizes c d same written = record {
  head = λ i inside. same.above (1 + i) (omega arith) ∙ written.head i inside;
  catalogue = twin_behind c d 1 3 empty_catalogue (omega arith) (omega arith) (omega arith) same written.catalogue;
  jobs = λ job before.
      let behind = job_behind sizes job before in
      let second = job_second sizes job before in
      twin_behind c d (start_of (parts sizes) (job_part job 0)) (start_of (parts sizes) (job_part job 1)) free_head
      (omega (arith, behind)) (omega (arith, second)) (omega arith) same (written.jobs job before);
}

head_opened : (sizes : Sizes) (c : Image) → c 0 ≡ OPEN → Holds c 1 (head_rest sizes) → (i : ℕ) → i < suc (length (head_rest sizes)) → c i ≡ slice_index (OPEN ∷ head_rest sizes) i
head_opened sizes c is_open head zero inside = is_open
head_opened sizes c is_open head (suc i) inside = let at : suc i ≡ 1 + i = omega arith in ap c at ∙ head i (omega arith)

-- a store with its gate open
is_new : (sizes : Sizes) (c : Image) → c 0 ≡ OPEN → IsWritten sizes c → IsNew sizes c
unfolding head_bytes
is_new sizes c is_open written = record {
  head = λ i inside. let at : 0 + i ≡ i = omega arith in ap c at ∙ head_opened sizes c is_open written.head i inside;
  catalogue = written.catalogue;
  jobs = written.jobs;
}

-- when the gate is opened each image is no store or a new one
pub opening : (sizes : Sizes) (v : View Image) → EachImage v (IsWritten sizes) → (c : Image) → After (SameOutside 0 1) v c → IsNoStore c ⊎ IsNew sizes c
opening sizes v written c after = elim (eqb_tells (c 0) OPEN) [
  | inl is_open ↦ inr (is_new sizes c is_open.1 (written_behind sizes after.0 c after.2 (written after.0 after.1)))
  | inr closed ↦ inl closed.1
]

pub opened : (sizes : Sizes) (v : View Image) → EachImage v (IsWritten sizes) → (c : Image) → After (SameOutside 0 1) v c → c 0 ≡ OPEN → IsNew sizes c
opened sizes v written c after is_open = is_new sizes c is_open (written_behind sizes after.0 c after.2 (written after.0 after.1))

-- one more job
pub one_more_job : (sizes : Sizes) (c d : Image) (job : ℕ) → job < 8 → ((k : ℕ) → k < job → IsNewJob sizes c k)
    → SameBelow (4096 * start_of (parts sizes) (job_part job 0)) c d → IsNewJob sizes d job → (k : ℕ) → k < job + 1 → IsNewJob sizes d k
one_more_job sizes c d job before jobs same mine k below = elim (eqb_tells k job) [
  | inl is ↦ subst (IsNewJob sizes d) (sym is.1) mine
  | inr other ↦
      let earlier : k < job = omega (arith, below, other.1) in
      let second = job_second sizes k (omega arith) in
      twin_kept c d (start_of (parts sizes) (job_part k 0)) (start_of (parts sizes) (job_part k 1)) (4096 * start_of (parts sizes) (job_part job 0)) free_head
      (omega (arith, second)) (omega arith) (omega (arith, second, job_before sizes k job earlier before)) same (jobs k earlier)
]

-- the twin of a job, by the page where it was written
pub job_made : (sizes : Sizes) (c : Image) (job page : ℕ) → job < 8 → page ≡ start_of (parts sizes) (job_part job 0)
    → IsNewTwin c page (page + 1) free_head → IsNewJob sizes c job
job_made sizes c job page before is twin =
    let second : page + 1 ≡ start_of (parts sizes) (job_part job 1) = omega (arith, is, job_second sizes job before) in
    subst (λ (k : ℕ). IsNewTwin c (start_of (parts sizes) (job_part job 0)) k free_head) second
    (subst (λ (k : ℕ). IsNewTwin c k (page + 1) free_head) is twin)
