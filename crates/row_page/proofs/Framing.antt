-- How the bytes of rows go together, one row behind the other.
use Rattle.std.proofs.Common.{◌≡◌, ℕ, ◌+◌, ◌≤◌, List, [], ◌∷◌, ◌++◌, length, take, drop, sym, ap, ◌∙◌, append-nil, append_assoc, arith, length-append, length-drop}
use Rattle.std.proofs.Math.Seq.{take-append-add, take-append_seam}
use Rattle.std.proofs.lemmas.List.{drop-append-le, drop-take, length-take-le}
use Rattle.byteorder.specs.Endian.{little_bytes}
use Rattle.byteorder.specs.Numbers.{length-bytes_low_first}
use Rattle.row_page.specs.Framed.{framed, rows_bytes}

-- bytes behind their length are two more
pub length-framed : (bytes : List ℕ) → length (framed bytes) ≡ 2 + length bytes
length-framed bytes = omega (arith, length-append (little_bytes 2 (length bytes)) bytes, length-bytes_low_first 0 2 (length bytes))

-- the bytes of a row stand behind those of the rows before it
pub rows_bytes-push : {A : Type 0} (encoded : A → List ℕ) (rows : List A) (row : A) → rows_bytes encoded (rows ++ row ∷ []) ≡ rows_bytes encoded rows ++ framed (encoded row)
rows_bytes-push encoded [] row = append-nil (framed (encoded row))
rows_bytes-push encoded (first ∷ rest) row =
    ap (λ (l : List ℕ). framed (encoded first) ++ l) (rows_bytes-push encoded rest row)
    ∙ sym (append_assoc (framed (encoded first)) (rows_bytes encoded rest) (framed (encoded row)))

-- a row on a page, behind what is held back there
pub row_behind : (front held n : ℕ) (page row rest : List ℕ) → front + held ≤ length page → n ≡ held + length row
    → take n (drop front (take (front + held) page ++ (row ++ rest))) ≡ take held (drop front page) ++ row
row_behind front held n page row rest long count =
    let before : length (take (front + held) page) ≡ front + held = length-take-le (front + held) page long in
    let has : length (take held (drop front page)) ≡ held = length-take-le held (drop front page) (omega (arith, length-drop front page)) in
    let all : drop front (take (front + held) page ++ (row ++ rest)) ≡ take held (drop front page) ++ (row ++ rest) =
    drop-append-le front (take (front + held) page) (row ++ rest) (omega (arith, before)) ∙ ap (λ (l : List ℕ). l ++ (row ++ rest)) (drop-take front held page) in
    let size : n ≡ length (take held (drop front page)) + length row = omega (arith, has, count) in
    rw (all, size) (take-append-add (take held (drop front page)) (row ++ rest) (length row) ∙ ap (λ (l : List ℕ). take held (drop front page) ++ l) (take-append_seam row rest))
