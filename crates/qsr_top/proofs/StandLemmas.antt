-- What a disk stands for, from one moment to the next.
use Rattle.std.proofs.Common.{◌≡◌, ℕ, zero, suc, ◌<◌, inl, inr, ⊎_elim, refl, sym, subst, ◌∙◌}
use Rattle.std.specs.Option.{IsSome}
use Rattle.disk_model.specs.View.{View, LeavesOnly}
use Rattle.page_store.specs.Store.{Contents}
use Rattle.page_store.specs.declared.pages.Sizes.{Sizes}
use Rattle.table_file.specs.Tables.{HasTables, OnlyTables, Tables}
use Rattle.qsr_top.specs.Stored.{Stands}

-- two promises on the same images
pub both_runs : {I : Type 0} {a b : View I} {P Q : I → Type 0} → LeavesOnly a b P → LeavesOnly a b Q → LeavesOnly a b (λ c. P c × Q c)
both_runs first second = record {
  later = first.later;
  each = λ c left. (first.each c left, second.each c left);
  before = λ t c le left. ⊎_elim (λ old. inl old) (λ p. ⊎_elim (λ old. inl old) (λ q. inr (p, q)) (second.before t c le left)) (first.before t c le left);
  keeps = first.keeps;
  honest = first.honest;
}

-- each twin stands for a body, that of the catalogue and all others
whole : (m d : Contents) → ((k : ℕ) → k < 9 → IsSome (d.body k)) → ((k : ℕ) → (k ≡ 0 → ⊥) → m.body k ≡ d.body k) → IsSome (m.body 0) → (k : ℕ) → k < 9 → IsSome (m.body k)
whole m d each same first zero less = first
whole m d each same first (suc k) less = subst (λ b. IsSome b) (sym (same (suc k) (λ never. cc))) (each (suc k) less)

-- a store of whose bodies only that of the catalogue is another one is a store
pub still_stands : (size : ℕ) (sizes : Sizes) (s s' : Tables) (d m : Contents) → Stands size sizes s d → OnlyTables d m → HasTables s' m → Stands size sizes s' m
still_stands size sizes s s' d m stands only tables = record {
  store = record {
    head = only.head ∙ stands.store.head;
    fits = stands.store.fits;
    twins = whole m d stands.store.twins only.bodies (subst (λ b. IsSome b) (sym tables.catalogue) refl);
  };
  tables = tables;
}
