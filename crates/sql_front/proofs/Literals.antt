-- What states know of literals: a `-` right before them, and that a number that the limits allow is in 128 signed bits.
use Rattle.std.specs.Prelude.{◌≡◌, ℕ, ◌^◌, ◌<◌, ◌≤◌, true, false, nat_le, is_some, IfSome}
use Rattle.std.proofs.Common.{refl, arith}
use Rattle.std.proofs.lemmas.Bool.{ltb-true, leb-true, lt-leb, and_parts, not-true}
use Rattle.std.proofs.lemmas.Option.{IfSome_then}
use Rattle.sql_front.proofs.Says.{signs}
use Rattle.sql_front.specs.declared.words.Setting.{Setting}
use Rattle.sql_front.specs.declared.words.Setting.TheVariants as s
use Rattle.sql_front.specs.Machine.{State, limit_word, want_key, sized_word, negated, step, limits, sign_place_of}
use Rattle.sql_front.specs.Seen.{Seen, wide, too_wide, minus_of}
use Rattle.sql_front.specs.Seen as w
use Rattle.sql_front.specs.Spell.{between, fits_limit, fits_setting}

-- ---- widths

narrow_limit : (n : ℕ) → fits_limit n ≡ true → wide false n ≡ false
narrow_limit n fits = lt-leb (2 ^ 127) n (let below : n < 2 ^ 63 = ltb-true n (2 ^ 63) fits in omega (arith, below))

narrow_between : (least most n : ℕ) → most < 2 ^ 127 → between least most n ≡ true → wide false n ≡ false
narrow_between least most n far fits = lt-leb (2 ^ 127) n (let below : n ≤ most = leb-true n most (and_parts (nat_le least n) (nat_le n most) fits).1 in omega (arith, below, far))

narrow_setting : (setting : Setting) (n : ℕ) → fits_setting setting n ≡ true → wide false n ≡ false
narrow_setting s.Block n fits = narrow_between 1 4096 n (omega arith) fits
narrow_setting s.Parts n fits = narrow_between 1 16 n (omega arith) fits
narrow_setting s.Sort n fits = narrow_between 1 65536 n (omega arith) fits

-- a number that the limits allow behind a state is in 128 signed bits
narrow_number : (st : State) (n at : ℕ) → limits st (w.Number n at) ≡ true → wide (is_some (sign_place_of st)) n ≡ false
narrow_number (limit_word o) n at fits = narrow_limit n fits
narrow_number (want_key k) n at fits = narrow_between 1 65535 n (omega arith) fits
narrow_number (sized_word setting place k) n at fits = narrow_setting setting n fits
narrow_number (negated place k) n at fits = not-true (wide true n) fits
narrow_number _ n at fits = not-true (wide false n) fits

-- so is each literal
narrow_literal : (st : State) (t : Seen) → limits st t ≡ true → too_wide (is_some (sign_place_of st)) t ≡ false
narrow_literal st (w.Number n at) allows = narrow_number st n at allows
narrow_literal st _ allows = refl

-- ---- the law

pub literals : (st : State) (t : Seen) → IfSome (step st t) (λ next. (sign_place_of next ≡ minus_of t) × (limits st t ≡ true → too_wide (is_some (sign_place_of st)) t ≡ false))
literals st t = IfSome_then (step st t) (signs st t) (λ next sign. (sign, narrow_literal st t))
