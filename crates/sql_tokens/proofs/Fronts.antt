-- The token at the front, by its first byte.
use Rattle.std.proofs.Common.{◌≡◌, refl, sym, ap, ◌∙◌, ℕ, ◌<◌, ◌==◌, true, false, if◌then◌else◌, List, ◌∷◌, length, drop, slice_index}
use Rattle.std.specs.Char.{is_ascii_digit}
use Rattle.std.proofs.lemmas.List.{at_drop_more}
use Rattle.sql_tokens.specs.Text.{text_length}
use Rattle.sql_tokens.specs.Tokens.{token_at, word_at, number_token_at, text_of, sign_at}
use Rattle.sql_tokens.specs.Words.{begins_name}

whole : (bytes : List ℕ) → 0 < length bytes → slice_index bytes 0 ∷ drop 1 bytes ≡ bytes
whole bytes h = sym (at_drop_more (λ bs. bs) bytes 0 0 h)

pub begins_word : (bytes : List ℕ) → 0 < length bytes → begins_name (slice_index bytes 0) ≡ true → word_at bytes ≡ token_at (slice_index bytes 0) (drop 1 bytes)
unfolding token_at
begins_word bytes h e = rw e (sym (ap word_at (whole bytes h)))

pub begins_number : (bytes : List ℕ) → 0 < length bytes → begins_name (slice_index bytes 0) ≡ false → is_ascii_digit (slice_index bytes 0) ≡ true
    → number_token_at bytes ≡ token_at (slice_index bytes 0) (drop 1 bytes)
unfolding token_at
begins_number bytes h e d =
    let b = slice_index bytes 0 in
    let rest = drop 1 bytes in
    let number : number_token_at (b ∷ rest) ≡ (if is_ascii_digit b then number_token_at (b ∷ rest) else (if b == 39 then text_of (text_length false rest) else sign_at b rest)) =
    sym (ap (λ x. if x then number_token_at (b ∷ rest) else (if b == 39 then text_of (text_length false rest) else sign_at b rest)) d) in
    rw e (sym (ap number_token_at (whole bytes h)) ∙ number)

pub begins_text : (b : ℕ) (rest : List ℕ) → begins_name b ≡ false → is_ascii_digit b ≡ false → (b == 39) ≡ true → text_of (text_length false rest) ≡ token_at b rest
unfolding token_at
begins_text b rest e d m = rw e (rw d (rw m refl))

pub begins_sign : (b : ℕ) (rest : List ℕ) → begins_name b ≡ false → is_ascii_digit b ≡ false → (b == 39) ≡ false → sign_at b rest ≡ token_at b rest
unfolding token_at
begins_sign b rest e d m = rw e (rw d (rw m refl))
