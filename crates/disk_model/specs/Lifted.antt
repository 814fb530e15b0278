-- What is known of what images stand for.
use Rattle.std.specs.Prelude.{◌≡◌}
use Rattle.std.proofs.Common.{refl}
use Rattle.disk_model.specs.View.{View}

abbrev pub lifted : {I M : Type 0} → (I → M) → View I → View M
lifted {I} f v = record {
  honest = v.honest;
  seen = f v.seen;
  clock = v.clock;
  now = λ m. (c : I) × v.now c × (f c ≡ m);
  since = λ t m. (c : I) × v.since t c × (f c ≡ m);
  counts_now = λ t m le now. (now.0, v.counts_now t now.0 le now.1, now.2);
  only_now = λ m left. (left.0, v.only_now left.0 left.1, left.2);
  seen_may_stay = λ honest. (v.seen, v.seen_may_stay honest, refl);
  honest_if_left = λ m now. v.honest_if_left now.0 now.1;
}
