-- What is known of images, told of what they stand for.
use Rattle.std.proofs.Common.{inl, inr, ⊎_elim, subst, ap, ◌∙◌, sym}
use Rattle.disk_model.specs.View.{View, LeavesOnly, EachImage, Stays, Steps, IsSynced}
use Rattle.disk_model.specs.Lifted.{lifted}

pub lifted_leaves : {I M : Type 0} {a b : View I} {P : I → Type 0} (f : I → M) (Q : M → Type 0) → LeavesOnly a b P → ((c : I) → P c → Q (f c))
    → LeavesOnly (lifted f a) (lifted f b) Q
lifted_leaves f Q run weaker = record {
  later = run.later;
  each = λ m left. subst Q left.2 (weaker left.0 (run.each left.0 left.1));
  before = λ t m le left. ⊎_elim (λ old. inl (left.0, old, left.2)) (λ p. inr (subst Q left.2 (weaker left.0 p))) (run.before t left.0 le left.1);
  keeps = λ t m le left. (left.0, run.keeps t left.0 le left.1, left.2);
  honest = run.honest;
}

pub lifted_steps : {I M : Type 0} {a b : View I} {step : I → I → Type 0} (f : I → M) (wide : M → M → Type 0) → Steps step a b
    → ((d c : I) → step d c → wide (f d) (f c)) → Steps wide (lifted f a) (lifted f b)
lifted_steps {a = a} {b = b} f wide steps weaker = record {
  seen = λ honest. weaker a.seen b.seen (steps.seen honest);
  crash = λ m now. let old = steps.crash now.0 now.1 in (f old.0, (old.0, old.1, λ _. f old.0), subst (wide (f old.0)) now.2 (weaker old.0 now.0 old.2));
  time = lifted_leaves f (lifted f b).now steps.time (λ c now. (c, now, λ _. f c));
}

pub lifted_stays : {I M : Type 0} {a b : View I} (f : I → M) → Stays a b → Stays (lifted f a) (lifted f b)
lifted_stays {a = a} f stays = record {
  seen = ap f stays.seen;
  crash = λ m now. (now.0, stays.crash now.0 now.1, now.2);
  time = lifted_leaves f (lifted f a).now stays.time (λ c now. (c, now, λ _. f c));
}

pub lifted_synced : {I M : Type 0} (f : I → M) (v : View I) → IsSynced v → IsSynced (lifted f v)
lifted_synced f v synced m now = sym now.2 ∙ ap f (synced now.0 now.1)

pub lifted_each : {I M : Type 0} (f : I → M) (v : View I) (P : I → Type 0) (Q : M → Type 0) → EachImage v P → ((c : I) → P c → Q (f c)) → EachImage (lifted f v) Q
lifted_each f v P Q each weaker m now = subst Q now.2 (weaker now.0 (each now.0 now.1))
