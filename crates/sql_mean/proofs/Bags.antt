-- The bags of selects one behind the other, along a loop.
use Rattle.std.proofs.Common.{◌≡◌, subst, sym, ap, ◌∙◌, ℕ, ◌<◌, List, length, get_or, map}
use Rattle.std.specs.List.{All, flat_map}
use Rattle.std.proofs.lemmas.List.{get_or-map, length-map}
use Rattle.sql_bind.specs.View.{select_view}
use Rattle.sql_bind.specs.declared.bound.BoundSelect.{BoundSelect}
use Rattle.sql_mean.specs.Fits.{SelectFits}
use Rattle.sql_mean.specs.Meaning.{Lists, select_bag}
use Rattle.sql_mean.specs.Rows.{Row}

-- the bags of these selects
abbrev pub bags : Lists → List BoundSelect → List Row
bags tables selects = flat_map (select_bag tables) (map select_view selects)

-- what holds of all of them holds of the next
pub next_fits : (tables : Lists) (selects : List BoundSelect) (i : ℕ) (s : BoundSelect) → i < length selects → s ≡ get_or selects i s
    → All (SelectFits tables) (map select_view selects) → SelectFits tables (select_view s)
next_fits tables selects i s low is fit =
    let here = get_or-map select_view selects i s (select_view s) low in
    subst (SelectFits tables) (here ∙ ap select_view (sym is)) (fit i (select_view s) (subst (λ n. i < n) (sym (length-map selects select_view)) low))
