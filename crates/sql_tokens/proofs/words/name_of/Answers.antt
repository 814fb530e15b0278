use Rattle.std.proofs.Common.{◌≡◌, sym, ap, ◌∙◌, ℕ, suc, ◌+◌, ◌-◌, ◌<◌, ◌≤◌, List, [], ◌∷◌, ◌++◌, length, map, take, replicate, get_or, slice_set, append_assoc, arith}
use Rattle.std.specs.Char.{to_ascii_lowercase}
use Rattle.std.proofs.lemmas.List.{set_at, map_more, length-map, length-take-le}
use Rattle.sql_tokens.proofs.words.name_of.Goals as goal

-- the next letter of a name, in place of the first zero
next_letter : (letters : List ℕ) (at : ℕ) → at < length letters → length letters ≤ 16
    → slice_set (map to_ascii_lowercase (take at letters) ++ replicate (16 - at) 0) at (to_ascii_lowercase (get_or letters at 0))
    ≡ map to_ascii_lowercase (take (at + 1) letters) ++ replicate (16 - (at + 1)) 0
next_letter letters at here fits =
    let before : List ℕ = map to_ascii_lowercase (take at letters) in
    let behind : List ℕ = replicate (16 - (at + 1)) 0 in
    let letter : ℕ = to_ascii_lowercase (get_or letters at 0) in
    let zeros : 16 - at ≡ suc (16 - (at + 1)) = omega (arith, here, fits) in
    let counted : length before ≡ at = length-map (take at letters) to_ascii_lowercase ∙ length-take-le at letters (omega (arith, here)) in
    ap (λ n. slice_set (before ++ replicate n 0) at letter) zeros ∙ set_at before 0 behind letter at counted
    ∙ sym (append_assoc before (letter ∷ []) behind) ∙ ap (λ front. front ++ behind) (sym (map_more to_ascii_lowercase letters at 0 here))

pub loop-at-preserved : goal.loop-at-preserved
loop-at-preserved c =
    let at = c.loop-at.at in
    ap (λ bytes. slice_set bytes at c.to_ascii_lowercase.result) c.loop-at.invariant
    ∙ ap (slice_set (map to_ascii_lowercase (take at c.args.letters.now) ++ replicate (16 - at) 0) at) c.to_ascii_lowercase.ensures.value
    ∙ next_letter c.args.letters.now at c.loop-at-test.true c.requires
