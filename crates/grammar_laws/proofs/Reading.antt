-- What follows from the laws of a machine, once for all grammars.
use Rattle.std.specs.Prelude.{◌≡◌, Bool, true, false, List, [], ◌∷◌, ◌++◌, map, Option, Some, None, is_some, IfSome, Result, Ok, Err, ◌⊎◌}
use Rattle.std.proofs.Common.{refl, sym, ap, ◌∙◌, subst, append_assoc, append-nil, inl, inr}
use Rattle.grammar_laws.specs.Reading.{CanGoOn, Found, IsText, LiteralsFit, Mark, Only, OnlyRefused, Refusal, Refused, Refuses, Words, allowed, last_minus, refusal_at, whats}
use Rattle.grammar_laws.specs.Machine.{Laws, Outcome, Parses, Read, Stopped, at_fault, go, run, same_bit}

pub same_bit-self : (b : Bool) → same_bit b b ≡ true
same_bit-self true = refl
same_bit-self false = refl

map-append : {X Y : Type 0} (f : X → Y) (xs ys : List X) → map f (xs ++ ys) ≡ map f xs ++ map f ys
map-append f [] ys = refl
map-append f (x ∷ xs) ys = rw (map-append f xs ys) refl

-- equal, at a type that is written
abbrev Same : (A : Type 0) → A → A → Type 0
Same A x y = x ≡ y

read_once : {State : Type 0} {a b : State} → Read a ≡ Read b → a ≡ b
read_once p = cc

stopped_once : {State : Type 0} {a b : Refusal} → Same (Outcome State) (Stopped a) (Stopped b) → a ≡ b
stopped_once p = cc

-- A run is read, or it is stopped.
read_is_not_stopped : {State : Type 0} {a : State} {told : Refusal} → Read a ≡ Stopped told → ⊥
read_is_not_stopped p = cc

none_is_not_some : {X : Type 0} {x : X} → None ≡ Some x → ⊥
none_is_not_some p = cc

some_once : {X : Type 0} {a b : X} → Some a ≡ Some b → a ≡ b
some_once p = cc

at_some : {X : Type 0} (P : X → Type 0) {o : Option X} {x : X} → o ≡ Some x → IfSome o P → P x
at_some P p has = subst (λ o. IfSome o P) p has

module _ {What State : Type 0} (step : State → What → Option State) (limits : State → What → Bool) where
  -- a state takes a token that the limits allow
  pub record Takes (st : State) (t : What) (next : State) : Type 0 where
    pub allows : limits st t ≡ true
    pub steps : step st t ≡ Some next

  pub go-takes : (st : State) (t : What) (next : State) (ms : List (Mark What)) → Takes st t next → go step limits st ((t, true) ∷ ms) ≡ go step limits next ms
  go-takes st t next ms takes = rw (takes.allows, takes.steps) refl

module _ {What Token State : Type 0} (what : Token → What) (step : State → What → Option State) (limits : State → What → Bool)
    (answer : State → Token → List Token → Refusal) where
  -- how a run over one more token goes: its state takes it, or it stops there
  pub data Turn (st : State) (t : Token) : Type 0 where
    taken : (next : State) → Takes step limits st (what t) next → Turn st t
    refused : ((ms : List (Mark What)) → go step limits st ((what t, true) ∷ ms) ≡ None)
        → ((ts : List Token) → run what step limits answer st (t ∷ ts) ≡ Stopped (answer st t ts)) → Turn st t

  turn : (st : State) (t : Token) → Turn st t
  turn st t = of (limits st (what t)) refl (step st (what t)) refl where
    of : (b : Bool) → limits st (what t) ≡ b → (n : Option State) → step st (what t) ≡ n → Turn st t
    of false p n q = refused (λ ms. rw p refl) (λ ts. rw p refl)
    of true p None q = refused (λ ms. rw (p, q) refl) (λ ts. rw (p, q) refl)
    of true p (Some next) q = taken next (record { allows = p; steps = q })

  pub run-takes : (st : State) (t : Token) (next : State) (ts : List Token) → Takes step limits st (what t) next
      → run what step limits answer st (t ∷ ts) ≡ run what step limits answer next ts
  run-takes st t next ts takes = rw (takes.allows, takes.steps) refl

  -- from one state over tokens to another, which reads them all
  abbrev pub Reads : State → List Token → State → Type 0
  Reads st [] last = st ≡ last
  Reads st (t ∷ ts) last = (next : State) × Takes step limits st (what t) next × Reads next ts last

  pub run-reads : (st last : State) (ts more : List Token) → Reads st ts last → run what step limits answer st (ts ++ more) ≡ run what step limits answer last more
  run-reads st last [] more same = rw same refl
  run-reads st last (t ∷ ts) more reads = run-takes st t reads.0 (ts ++ more) reads.1 ∙ run-reads reads.0 last ts more reads.2

  pub reads_run : (st last : State) (ts : List Token) → Reads st ts last → run what step limits answer st ts ≡ Read last
  reads_run st last ts reads = ap (run what step limits answer st) (sym (append-nil ts)) ∙ run-reads st last ts [] reads

  pub go-reads : (st last : State) (ts : List Token) (ms : List (Mark What)) → Reads st ts last
      → go step limits st (allowed (map what ts) ++ ms) ≡ go step limits last ms
  go-reads st last [] ms same = rw same refl
  go-reads st last (t ∷ ts) ms reads = go-takes step limits st (what t) reads.0 (allowed (map what ts) ++ ms) reads.1 ∙ go-reads reads.0 last ts ms reads.2

  pub reads_more : (st middle last : State) (ts more : List Token) → Reads st ts middle → Reads middle more last → Reads st (ts ++ more) last
  reads_more st middle last [] more same reads = subst (λ from. Reads from more last) (sym same) reads
  reads_more st middle last (t ∷ ts) more first reads = (first.0, first.1, reads_more first.0 middle last ts more first.2 reads)

  -- where a run stops: at a token, in a state that doesn't take it
  pub record Stops (st : State) (ts : List Token) (told : Refusal) : Type 0 where
    pub before : List Token
    pub token : Token
    pub behind : List Token
    pub whole : ts ≡ before ++ token ∷ behind
    pub last : State
    pub reads : Reads st before last
    pub refuses : (ms : List (Mark What)) → go step limits last ((what token, true) ∷ ms) ≡ None
    pub is : told ≡ answer last token behind

  -- how a run ends: all is read, or it stops
  pub data Ends (st : State) (ts : List Token) : Type 0 where
    read : (last : State) → Reads st ts last → Ends st ts
    stopped : (told : Refusal) → run what step limits answer st ts ≡ Stopped told → Stops st ts told → Ends st ts

  stops_later : (st next : State) (t : Token) (ts : List Token) (told : Refusal) → Takes step limits st (what t) next → Stops next ts told → Stops st (t ∷ ts) told
  stops_later st next t ts told takes s = record {
    before = t ∷ s.before;
    token = s.token;
    behind = s.behind;
    whole = ap (λ rest. t ∷ rest) s.whole;
    last = s.last;
    reads = (next, takes, s.reads);
    refuses = s.refuses;
    is = s.is;
  }

  pub ends : (st : State) (ts : List Token) → Ends st ts
  ends st [] = read st refl
  ends st (t ∷ ts) = by_turn (turn st t) (λ next. ends next ts) where
    later : (next : State) → Takes step limits st (what t) next → Ends next ts → Ends st (t ∷ ts)
    later next takes (read last reads) = read last (next, takes, reads)
    later next takes (stopped told is s) = stopped told (run-takes st t next ts takes ∙ is) (stops_later st next t ts told takes s)

    by_turn : Turn st t → ((next : State) → Ends next ts) → Ends st (t ∷ ts)
    by_turn (taken next takes) more = later next takes (more next)
    by_turn (refused none stop) more = stopped (answer st t ts) (stop ts) (record {
      before = [];
      token = t;
      behind = ts;
      whole = refl;
      last = st;
      reads = refl;
      refuses = none;
      is = refl;
    })

  pub stops : (st : State) (ts : List Token) (told : Refusal) → run what step limits answer st ts ≡ Stopped told → Stops st ts told
  stops st ts told is = of (ends st ts) where
    of : Ends st ts → Stops st ts told
    of (read last reads) = absurd (read_is_not_stopped (sym (reads_run st last ts reads) ∙ is))
    of (stopped other was s) = subst (Stops st ts) (stopped_once (sym was ∙ is)) s

  pub reads_of : (st last : State) (ts : List Token) → run what step limits answer st ts ≡ Read last → Reads st ts last
  reads_of st last ts is = of (ends st ts) where
    of : Ends st ts → Reads st ts last
    of (read other reads) = subst (Reads st ts) (read_once (sym (reads_run st other ts reads) ∙ is)) reads
    of (stopped told was s) = absurd (read_is_not_stopped (sym is ∙ was))

  -- marks that lead to a state begin with tokens that are read
  pub reads_go : (st last : State) (ts : List Token) (ms : List (Mark What)) → go step limits st (allowed (map what ts) ++ ms) ≡ Some last
      → (middle : State) × Reads st ts middle × (go step limits middle ms ≡ Some last)
  reads_go st last [] ms is = (st, refl, is)
  reads_go st last (t ∷ ts) ms is = by_turn (turn st t) (λ next. reads_go next last ts ms) where
    by_turn : Turn st t
        → ((next : State) → go step limits next (allowed (map what ts) ++ ms) ≡ Some last → (middle : State) × Reads next ts middle × (go step limits middle ms ≡ Some last))
        → (middle : State) × Reads st (t ∷ ts) middle × (go step limits middle ms ≡ Some last)
    by_turn (taken next takes) more =
        let rest = more next (sym (go-takes step limits st (what t) next (allowed (map what ts) ++ ms) takes) ∙ is) in
        (rest.0, (next, takes, rest.1), rest.2)
    by_turn (refused none stop) more = absurd (none_is_not_some (sym (none (allowed (map what ts) ++ ms)) ∙ is))

module _ {What Token Tree State : Type 0} {words : Words What Token} {step : State → What → Option State} {limits : State → What → Bool}
    {answer : State → Token → List Token → Refusal} {spell : Tree → List (Mark What)} {start : State} {ended : Tree → State}
    (laws : Laws words step limits answer spell start ended) where
  said_reads : (st last : State) (ts : List Token) → Reads words.what step limits answer st ts last
      → laws.said last ≡ laws.said st ++ allowed (whats words ts)
  said_reads st last [] same = rw (sym same) (sym (append-nil (laws.said st)))
  said_reads st last (t ∷ ts) reads =
      let next = reads.0 in
      let one = at_some (λ next. laws.said next ≡ laws.said st ++ (words.what t, limits st (words.what t)) ∷ []) reads.1.steps (laws.says st (words.what t)) in
      said_reads next last ts reads.2
      ∙ rw (one, reads.1.allows) (append_assoc (laws.said st) ((words.what t, true) ∷ []) (allowed (whats words ts)))

  literal : (st : State) (t : Token) (next : State) → Takes step limits st (words.what t) next
      → (laws.signed next ≡ words.minus (words.what t)) × (words.too_wide (is_some (laws.signed st)) (words.what t) ≡ false)
  literal st t next takes =
      let one = at_some (λ next. (laws.signed next ≡ words.minus (words.what t)) × (limits st (words.what t) ≡ true → words.too_wide (is_some (laws.signed st)) (words.what t) ≡ false))
      takes.steps (laws.literals st (words.what t)) in
      (one.0, one.1 takes.allows)

  signed_reads : (st last : State) (ts : List Token) → Reads words.what step limits answer st ts last
      → laws.signed last ≡ last_minus words (laws.signed st) (whats words ts)
  signed_reads st last [] same = ap laws.signed (sym same)
  signed_reads st last (t ∷ ts) reads =
      let one = literal st t reads.0 reads.1 in
      signed_reads reads.0 last ts reads.2 ∙ ap (λ signed. last_minus words signed (whats words ts)) one.0

  fit_reads : (st last : State) (ts : List Token) → Reads words.what step limits answer st ts last
      → LiteralsFit words (laws.signed st) (whats words ts)
  fit_reads st last [] same = tt
  fit_reads st last (t ∷ ts) reads =
      let one = literal st t reads.0 reads.1 in
      (one.1, subst (λ signed. LiteralsFit words signed (whats words ts)) one.0 (fit_reads reads.0 last ts reads.2))

  abbrev running : State → List Token → Outcome State
  running = run words.what step limits answer

  one_more : (ts : List Token) (t : Token) (rest : List (Mark What))
      → allowed (whats words ts) ++ (words.what t, true) ∷ rest ≡ allowed (whats words ts ++ words.what t ∷ []) ++ rest
  one_more ts t rest = sym (ap (λ marks. marks ++ rest) (map-append (λ t. (t, true)) (whats words ts) (words.what t ∷ []))
      ∙ append_assoc (allowed (whats words ts)) ((words.what t, true) ∷ []) rest)

  -- what is read from the start is the beginning of a text
  pub can_go_on : (last : State) (ts : List Token) → Reads words.what step limits answer start ts last → CanGoOn spell (whats words ts)
  can_go_on last ts reads =
      let whole = laws.completed last in
      (whole.0, whole.1, whole.2 ∙ ap (λ said. said ++ whole.1) (said_reads start last ts reads ∙ ap (λ said. said ++ allowed (whats words ts)) laws.said_start))

  -- the beginning of a text is read
  pub is_read : (ts : List Token) → CanGoOn spell (whats words ts) → (last : State) × Reads words.what step limits answer start ts last
  is_read ts can =
      let found = reads_go words.what step limits answer start (ended can.0) ts can.1 (ap (go step limits start) (sym can.2) ∙ laws.goes can.0) in
      (found.0, found.1)

  pub read_text : (tree : Tree) (ts : List Token) → run words.what step limits answer start ts ≡ Read (ended tree) → IsText spell (whats words ts) tree
  read_text tree ts is =
      sym (laws.said_ended tree)
      ∙ said_reads start (ended tree) ts (reads_of words.what step limits answer start (ended tree) ts is)
      ∙ ap (λ said. said ++ allowed (whats words ts)) laws.said_start

  pub text_read : (tree : Tree) (ts : List Token) → IsText spell (whats words ts) tree → run words.what step limits answer start ts ≡ Read (ended tree)
  text_read tree ts is =
      let found = reads_go words.what step limits answer start (ended tree) ts [] (ap (go step limits start) (append-nil (allowed (whats words ts)) ∙ sym is) ∙ laws.goes tree) in
      reads_run words.what step limits answer start found.0 ts found.1 ∙ ap Read (some_once found.2)

  -- no two trees have one text
  pub one_text : (tree other : Tree) (ts : List Token) → IsText spell (whats words ts) tree → IsText spell (whats words ts) other → tree ≡ other
  one_text tree other ts is was = laws.ended_once tree other (read_once (sym (text_read tree ts is) ∙ text_read other ts was))

  pub refuses : (told : Refusal) (ts : List Token) → run words.what step limits answer start ts ≡ Stopped told → Refuses words spell ts told
  refuses told ts is = let s = stops words.what step limits answer start ts told is in record {
    before = s.before;
    token = s.token;
    behind = s.behind;
    whole = s.whole;
    goes = can_go_on s.last s.before s.reads;
    stops = λ can. none_is_not_some (
        sym (s.refuses can.1)
        ∙ sym (go-reads words.what step limits answer start s.last s.before ((words.what s.token, true) ∷ can.1) s.reads)
        ∙ ap (go step limits start) (one_more s.before s.token can.1 ∙ sym can.2)
        ∙ laws.goes can.0);
    fit = subst (λ signed. LiteralsFit words signed (whats words s.before)) laws.signed_start (fit_reads start s.last s.before s.reads);
    here = s.is ∙ laws.answers s.last s.token s.behind ∙ ap (λ signed. refusal_at words signed s.token s.behind)
        (signed_reads start s.last s.before s.reads ∙ ap (λ signed. last_minus words signed (whats words s.before)) laws.signed_start);
  }

  -- a token behind tokens that are read, with which they can't go on, isn't taken
  stops_at : (last : State) (before behind : List Token) (token : Token) → Reads words.what step limits answer start before last
      → ¬ CanGoOn spell (whats words before ++ words.what token ∷ []) → run words.what step limits answer last (token ∷ behind) ≡ Stopped (answer last token behind)
  stops_at last before behind token reads stops = by_turn (turn words.what step limits answer last token) where
    by_turn : Turn words.what step limits answer last token → run words.what step limits answer last (token ∷ behind) ≡ Stopped (answer last token behind)
    by_turn (refused none stop) = stop behind
    by_turn (taken next takes) = absurd (stops (subst (CanGoOn spell) (map-append words.what before (token ∷ []))
        (can_go_on next (before ++ token ∷ []) (reads_more words.what step limits answer start last next before (token ∷ []) reads (next, takes, refl)))))

  pub refused_stops : (told : Refusal) (ts : List Token) → Refuses words spell ts told → run words.what step limits answer start ts ≡ Stopped told
  refused_stops told ts r =
      let read = is_read r.before r.goes in
      ap (running start) r.whole
      ∙ run-reads words.what step limits answer start read.0 r.before (r.token ∷ r.behind) read.1
      ∙ stops_at read.0 r.before r.behind r.token read.1 r.stops
      ∙ ap Stopped (laws.answers read.0 r.token r.behind
      ∙ ap (λ signed. refusal_at words signed r.token r.behind)
      (signed_reads start read.0 r.before read.1 ∙ ap (λ signed. last_minus words signed (whats words r.before)) laws.signed_start)
      ∙ sym r.here)

  -- tokens are refused in one way
  pub one_refusal : (told other : Refusal) (ts : List Token) → Refuses words spell ts told → Refuses words spell ts other → told ≡ other
  one_refusal told other ts is was = stopped_once (sym (refused_stops told ts is) ∙ refused_stops other ts was)

  -- what can go on isn't refused, and the rest is
  pub goes_or_refused : (ts : List Token) → CanGoOn spell (whats words ts) ⊎ ((told : Refusal) × Refuses words spell ts told)
  goes_or_refused ts = of (ends words.what step limits answer start ts) where
    of : Ends words.what step limits answer start ts → CanGoOn spell (whats words ts) ⊎ ((told : Refusal) × Refuses words spell ts told)
    of (read last reads) = inl (can_go_on last ts reads)
    of (stopped told is s) = inr (told, refuses told ts is)

  pub goes_not_refused : (told : Refusal) (ts : List Token) → CanGoOn spell (whats words ts) → Refuses words spell ts told → ⊥
  goes_not_refused told ts can r =
      let read = is_read ts can in
      read_is_not_stopped (sym (reads_run words.what step limits answer start read.0 ts read.1) ∙ refused_stops told ts r)

  -- tokens that can go on have no literal that is too wide
  pub literals_fit : (ts : List Token) → CanGoOn spell (whats words ts) → LiteralsFit words None (whats words ts)
  literals_fit ts can =
      let read = is_read ts can in
      subst (λ signed. LiteralsFit words signed (whats words ts)) laws.signed_start (fit_reads start read.0 ts read.1)

  -- What follows for a parser from its equation.
  module _ {Value Fault : Type 0} (tree_of : Value → Tree) (tells : Fault → Option Refusal) (ts : List Token) where
    pub found_of : (result : Result Value Fault) → Parses tells running start ended tree_of ts result → Found words spell tree_of tells ts result
    found_of (Ok v) is = read_text (tree_of v) ts is
    found_of (Err e) is = tt

    pub only_of : (result : Result Value Fault) → Parses tells running start ended tree_of ts result → Only words spell tree_of tells ts result
    only_of (Ok v) is tree text = laws.ended_once (tree_of v) tree (read_once (sym is ∙ text_read tree ts text))
    only_of (Err e) is tree text = by_told (tells e) is where
      by_told : (t : Option Refusal) → running start ts ≡ at_fault (running start ts) t → t ≡ None
      by_told None is = refl
      by_told (Some told) is = absurd (read_is_not_stopped (sym (text_read tree ts text) ∙ is))

    pub refused_of : (result : Result Value Fault) → Parses tells running start ended tree_of ts result → Refused words spell tree_of tells ts result
    refused_of (Ok v) is = tt
    refused_of (Err e) is = by_told (tells e) is where
      by_told : (t : Option Refusal) → running start ts ≡ at_fault (running start ts) t → IfSome t (Refuses words spell ts)
      by_told None is = tt
      by_told (Some told) is = refuses told ts is

    pub only_refused_of : (result : Result Value Fault) → Parses tells running start ended tree_of ts result → OnlyRefused words spell tree_of tells ts result
    only_refused_of (Ok v) is told refuses = read_is_not_stopped (sym is ∙ refused_stops told ts refuses)
    only_refused_of (Err e) is told refuses = by_told (tells e) is where
      by_told : (t : Option Refusal) → running start ts ≡ at_fault (running start ts) t → (t ≡ None) ⊎ (t ≡ Some told)
      by_told None is = inl refl
      by_told (Some other) is = inr (ap Some (stopped_once (sym is ∙ refused_stops told ts refuses)))
