-- What two calls' clauses say together.
use Rattle.std.proofs.Common.{Result, Ok, Err, OnOk}

-- two facts of a call that succeeded
pub on_ok_both : {T E A B C : Type 0} (r : Result T E) → (A → B → C) → OnOk r A → OnOk r B → OnOk r C
on_ok_both (Ok v) f a b = f a b
on_ok_both (Err e) f a b = tt
