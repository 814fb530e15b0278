-- How what is told of a command on tables is told.
use Rattle.std.proofs.Common.{◌≡◌, ℕ, List, Option, inl, inr, subst, sym}
use Rattle.std.specs.Prelude.{Result, IfOk, OnErr}
use Rattle.std.specs.Prelude.Result.{Ok, Err}
use Rattle.row_script.specs.declared.end.End.{End}
use Rattle.row_script.specs.declared.end.End.TheVariants.{NoMemory}
use Rattle.qsr_top.specs.declared.told.Told.{Told}
use Rattle.row_script.specs.Ends.{end_text}
use Rattle.qsr_top.specs.Told.{IsTold, IsToldOr, TakesMemory, told_end, told_text}

-- a line that takes no memory
pub told_plainly : (name : List ℕ) (told is : Told) (end : End) (given given' : Option (List ℕ)) (faults faults' : ℕ) → told ≡ is
    → IsTold (told_text name is) (told_end is) end given given' faults faults' → IsToldOr name told end given given' faults faults'
told_plainly name told is end given given' faults faults' same tells =
    subst (λ (told : Told). IsToldOr name told end given given' faults faults') (sym same) (inl tells)

-- a line for which there may be no memory
pub told_or : {T E : Type 0} (bytes_of : T → List ℕ) (text : Result T E) (name : List ℕ) (told is : Told) (end : End) (given given' : Option (List ℕ)) (faults faults' : ℕ)
    → told ≡ is → TakesMemory is
    → IfOk text (λ text. bytes_of text ≡ told_text name is)
    → IfOk text (λ text. IsTold (bytes_of text) (told_end is) end given given' faults faults')
    → OnErr text (IsTold (end_text NoMemory) NoMemory end given given' faults faults')
    → IsToldOr name told end given given' faults faults'
told_or bytes_of (Ok text) name told is end given given' faults faults' same takes line tells none =
    told_plainly name told is end given given' faults faults' same (subst (λ (text : List ℕ). IsTold text (told_end is) end given given' faults faults') line tells)
told_or bytes_of (Err error) name told is end given given' faults faults' same takes line tells none =
    subst (λ (told : Told). IsToldOr name told end given given' faults faults') (sym same) (inr (takes, none))
