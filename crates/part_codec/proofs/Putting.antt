-- Parts that are put into a buffer one after the other.
use Rattle.std.proofs.Common.{◌≡◌, ℕ, zero, suc, ◌+◌, ◌<◌, ◌≤◌, List, [], ◌∷◌, ◌++◌, length, take, drop, get_or, refl, sym, ap, subst, ◌∙◌, append-nil, append_assoc, arith, length-append}
use Rattle.std.specs.List.{AllByRecursion, flat_map}
use Rattle.std.proofs.Math.ListN.{drop_of_length-le}
use Rattle.std.proofs.lemmas.List.{drop_more}
use Rattle.std.proofs.lemmas.List.Concat.{flat_map-cons}
use Rattle.part_codec.specs.Puts.{Puts}

pub then_puts : {old xs mid ys new : List ℕ} {at next end : ℕ} → Puts old at xs mid next → Puts mid next ys new end → Puts old at (xs ++ ys) new end
then_puts {old = old} {xs = xs} {ys = ys} {at = at} first second =
    let first_end = first.end_is in
    let second_end = second.end_is in
    record {
      end_is = omega (arith, first_end, second_end, length-append xs ys);
      front = second.front ∙ ap (λ t. t ++ ys) first.front ∙ append_assoc (take at old) xs ys;
      long = second.long ∙ first.long;
    }

pub puts_none : (old : List ℕ) (at : ℕ) → Puts old at [] old at
puts_none old at = record { end_is = omega arith; front = sym (append-nil (take at old)); long = refl }

-- Of a whole some bytes were put, and the rest is to be put behind them.
pub record HasPut (old : List ℕ) (at : ℕ) (whole rest new : List ℕ) (end : ℕ) : Type 0 where
  pub done : List ℕ
  pub parts : done ++ rest ≡ whole
  pub puts : Puts old at done new end

pub starts_putting : (old : List ℕ) (at : ℕ) (whole : List ℕ) → HasPut old at whole whole old at
starts_putting old at whole = record { done = []; parts = refl; puts = puts_none old at }

-- the next bytes
pub puts_more : {old whole rest : List ℕ} (bytes more : List ℕ) {at end next : ℕ} {new newer : List ℕ} → HasPut old at whole rest new end → rest ≡ bytes ++ more → Puts new end bytes newer next
    → HasPut old at whole more newer next
puts_more bytes more was rest_is one =
    record {
      done = was.done ++ bytes;
      parts = append_assoc was.done bytes more ∙ ap (λ t. was.done ++ t) (sym rest_is) ∙ was.parts;
      puts = then_puts was.puts one;
    }

-- there is room for the next bytes
pub puts_room : {old whole rest : List ℕ} (bytes more : List ℕ) {at end : ℕ} {new : List ℕ} → HasPut old at whole rest new end → rest ≡ bytes ++ more → at + length whole ≤ length old
    → end + length bytes ≤ length new
puts_room {whole = whole} {rest = rest} bytes more was rest_is room =
    let end_is = was.puts.end_is in
    let long = was.puts.long in
    let whole_is : length (was.done ++ rest) ≡ length whole = ap length was.parts in
    omega (arith, room, long, end_is, whole_is, length-append was.done rest, ap length rest_is, length-append bytes more)

-- nothing is left
pub puts_all : {old whole rest : List ℕ} {at end : ℕ} {new : List ℕ} → HasPut old at whole rest new end → rest ≡ [] → Puts old at whole new end
puts_all {old = old} {whole = whole} {at = at} {end = end} {new = new} was none =
    subst (λ t. Puts old at t new end) (sym (append-nil was.done) ∙ ap (λ t. was.done ++ t) (sym none) ∙ was.parts) was.puts

-- what is left of some items is the next and what is left behind it
pub next_part : {A : Type 0} (encode : A → List ℕ) (items : List A) (i : ℕ) (item : A) → i < length items → item ≡ get_or items i item
    → flat_map encode (drop i items) ≡ encode item ++ flat_map encode (drop (i + 1) items)
next_part encode items i item within is =
    ap (flat_map encode) (drop_more items i item within) ∙ flat_map-cons encode (get_or items i item) (drop (i + 1) items) ∙ ap (λ a. encode a ++ flat_map encode (drop (i + 1) items)) (sym is)

pub no_part : {A : Type 0} (encode : A → List ℕ) (items : List A) (i : ℕ) → length items ≤ i → flat_map encode (drop i items) ≡ []
no_part encode items i past = ap (flat_map encode) (drop_of_length-le items past)

pub each_at : {A : Type 0} (Is : A → Type 0) (items : List A) (i : ℕ) (item : A) → AllByRecursion Is items → i < length items → item ≡ get_or items i item → Is item
each_at Is [] i item all within is = absurd (omega (arith, within))
each_at Is (a ∷ items) zero item all within is = subst Is (sym is) all.0
each_at Is (a ∷ items) (suc i) item all within is = each_at Is items i item all.1 (omega (arith, within)) is

-- the same of an item that is told by its place
pub next_at : {A : Type 0} (encode : A → List ℕ) (items : List A) (i : ℕ) (other : A) → i < length items
    → flat_map encode (drop i items) ≡ encode (get_or items i other) ++ flat_map encode (drop (i + 1) items)
next_at encode items i other within = ap (flat_map encode) (drop_more items i other within) ∙ flat_map-cons encode (get_or items i other) (drop (i + 1) items)
