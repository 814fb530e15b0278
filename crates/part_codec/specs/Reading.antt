-- What is read from the front of bytes: each reader gives the part and the bytes behind it, or how many bytes are left where it is bad.
use Rattle.std.specs.Prelude.{◌≡◌, ℕ, zero, suc, ℤ, List, [], ◌∷◌, length, take, drop, Result, Ok, Err, Bool, ◌||◌, ◌==◌, nat_lt, if◌then◌else◌, ⊤}
use Rattle.std.specs.Int.{Width, w8, w16, w32, w64, w128, cast_signed}
use Rattle.std.specs.Str.{is_utf8}
use Rattle.byteorder.specs.Endian.{little_number}
use Rattle.part_codec.specs.declared.unread.Unread.{Unread}
use Rattle.part_codec.specs.declared.unread.Unread.TheVariants.{Memory, Bad}

infixl 10 ◌>>=◌
abbrev pub ◌>>=◌ : {A B : Type 0} → Result A ℕ → (A → Result B ℕ) → Result B ℕ
(Ok x) >>= f = f x
(Err left) >>= f = Err left

-- What a function returned, seen by view, is what is read, unless memory ran out.
abbrev pub Misses : {Y : Type 0} → Unread → Result Y ℕ → Type 0
Misses Memory read = ⊤
Misses (Bad left) read = read ≡ Err left

abbrev pub Gives : {X Y : Type 0} → (X → Y) → Result X Unread → Result Y ℕ → Type 0
Gives view (Ok x) read = read ≡ Ok (view x)
Gives view (Err e) read = Misses e read

-- the answer of a reader that takes no memory
abbrev pub IsBad : Unread → Type 0
IsBad Memory = ⊥
IsBad (Bad left) = ⊤

-- what reads an A
abbrev pub Reader : Type 0 → Type 0
Reader A = List ℕ → Result (A × List ℕ) ℕ

-- one part and then another, which may depend on the first
abbrev pub chained : {A B : Type 0} → Reader A → (A → Reader B) → Reader (A × B)
chained first second bytes = first bytes >>= λ a. second a.0 a.1 >>= λ b. Ok ((a.0, b.0), b.1)

abbrev pub paired : {A B : Type 0} → Reader A → Reader B → Reader (A × B)
paired first second = chained first (λ _. second)

-- what is made of a part · a part that passes a test
abbrev pub mapped : {A B : Type 0} → (A → B) → Reader A → Reader B
mapped f part bytes = part bytes >>= λ a. Ok (f a.0, a.1)

abbrev pub tested : {A : Type 0} → (A → Bool) → Reader A → Reader A
tested test part bytes = part bytes >>= λ a. if test a.0 then Ok a else Err (length bytes)

-- so many parts
abbrev pub list_at : {A : Type 0} → Reader A → ℕ → Reader (List A)
list_at part zero bytes = Ok ([], bytes)
list_at part (suc n) bytes = part bytes >>= λ first. list_at part n first.1 >>= λ others. Ok (first.0 ∷ others.0, others.1)

-- a number within limits, and the bytes behind it, where so many bytes were left
abbrev pub within_limits : ℕ → ℕ → ℕ → ℕ → List ℕ → Result (ℕ × List ℕ) ℕ
within_limits least most number left rest = if nat_lt number least || nat_lt most number then Err left else Ok (number, rest)

unfoldable pub byte_at : ℕ → ℕ → Reader ℕ
byte_at least most [] = Err 0
byte_at least most (byte ∷ rest) = within_limits least most byte (length (byte ∷ rest)) rest

-- a number of so many bytes, the lowest first
unfoldable pub unsigned_at : ℕ → ℕ → ℕ → Reader ℕ
unsigned_at size least most bytes =
    if nat_lt (length bytes) size then Err (length bytes) else within_limits least most (little_number size bytes) (length bytes) (drop size bytes)

-- how many bytes a number of a width has
abbrev pub width_bytes : Width → ℕ
width_bytes w8 = 1
width_bytes w16 = 2
width_bytes w32 = 4
width_bytes w64 = 8
width_bytes w128 = 16

-- a number of a width in two's complement, the lowest byte first
unfoldable pub signed_at : Width → Reader ℤ
signed_at width bytes =
    if nat_lt (length bytes) (width_bytes width) then Err (length bytes)
    else Ok (cast_signed width (little_number (width_bytes width) bytes), drop (width_bytes width) bytes)

-- a text of so many bytes
unfoldable pub text_at : ℕ → Reader (List ℕ)
text_at size bytes =
    if nat_lt (length bytes) size then Err (length bytes)
    else (if is_utf8 (take size bytes) then Ok (take size bytes, drop size bytes) else Err (length bytes))

-- a text behind its length in one byte, which is within limits
unfoldable pub short_text_at : ℕ → ℕ → Reader (List ℕ)
short_text_at least most = mapped (λ p. p.1) (chained (byte_at least most) text_at)

-- parts behind their number in one byte, which is within limits
abbrev pub counted : {A : Type 0} → ℕ → ℕ → Reader A → Reader (List A)
counted least most part = mapped (λ p. p.1) (chained (byte_at least most) (list_at part))

-- a part that is all of the bytes
abbrev pub entire : {A : Type 0} → Reader A → List ℕ → Result A ℕ
entire part bytes = part bytes >>= λ a. if length a.1 == 0 then Ok a.0 else Err (length a.1)
