-- The cause of a status, by what is told.
use Rattle.std.proofs.Common.{◌≡◌, ℕ, ◌≤◌, List, Option, inl, inr, ⊎_elim, refl, sym, subst, arith}
use Rattle.qsr_value.specs.Causes.{RoseByOne}
use Rattle.row_script.specs.declared.end.End.{End}
use Rattle.row_script.specs.declared.end.End.TheVariants.{SinkFault}
use Rattle.qsr_top.specs.declared.told.Told.{Told}
use Rattle.qsr_top.specs.declared.told.Told.TheVariants as told
use Rattle.row_script.specs.Ends.{StatusCause, status_of}
use Rattle.qsr_top.specs.Told.{IsToldOr, TakesMemory, ToldCause, told_end}

-- no count rose
calm : (status disk disk' source source' sink sink' : ℕ) → (status ≡ 2 → ⊥) → (status ≡ 3 → ⊥) → (status ≡ 4 → ⊥) → (status ≡ 5 → ⊥) → disk' ≡ disk → source' ≡ source → sink' ≡ sink
    → StatusCause status disk disk' source source' sink sink'
calm status disk disk' source source' sink sink' no2 no3 no4 no5 d s k = record {
  disk_fault = λ is. absurd (no3 is);
  disk_told = inr (inr d);
  source_fault = λ is. absurd (no4 is);
  source_told = inr (inr s);
  sink_fault = λ is. absurd (no5 is);
  sink_told = inr k;
  usage = no2;
  disk_count = omega (arith, d);
  source_count = omega (arith, s);
  sink_count = omega (arith, k);
}

disk_rose : (disk disk' source source' sink sink' : ℕ) → RoseByOne disk disk' → source' ≡ source → sink' ≡ sink → StatusCause 3 disk disk' source source' sink sink'
disk_rose disk disk' source source' sink sink' d s k = record {
  disk_fault = λ is. d;
  disk_told = inl refl;
  source_fault = λ is. absurd (omega (arith, is));
  source_told = inr (inr s);
  sink_fault = λ is. absurd (omega (arith, is));
  sink_told = inr k;
  usage = λ is. omega (arith, is);
  disk_count = d.no_less;
  source_count = omega (arith, s);
  sink_count = omega (arith, k);
}

source_rose : (disk disk' source source' sink sink' : ℕ) → disk' ≡ disk → RoseByOne source source' → sink' ≡ sink → StatusCause 4 disk disk' source source' sink sink'
source_rose disk disk' source source' sink sink' d s k = record {
  disk_fault = λ is. absurd (omega (arith, is));
  disk_told = inr (inr d);
  source_fault = λ is. s;
  source_told = inl refl;
  sink_fault = λ is. absurd (omega (arith, is));
  sink_told = inr k;
  usage = λ is. omega (arith, is);
  disk_count = omega (arith, d);
  source_count = s.no_less;
  sink_count = omega (arith, k);
}

sink_rose : (disk disk' source source' sink sink' : ℕ) → disk ≤ disk' → source ≤ source' → RoseByOne sink sink' → StatusCause 5 disk disk' source source' sink sink'
sink_rose disk disk' source source' sink sink' d s k = record {
  disk_fault = λ is. absurd (omega (arith, is));
  disk_told = inr (inl refl);
  source_fault = λ is. absurd (omega (arith, is));
  source_told = inr (inl refl);
  sink_fault = λ is. k;
  sink_told = inl refl;
  usage = λ is. omega (arith, is);
  disk_count = d;
  source_count = s;
  sink_count = k.no_less;
}

-- no count falls
no_less : (told : Told) (disk disk' source source' : ℕ) → ToldCause told disk disk' source source' → (disk ≤ disk') × (source ≤ source')
no_less told.DiskFault disk disk' source source' cause = (cause.0.no_less, omega (arith, cause.1))
no_less told.SourceFault disk disk' source source' cause = (omega (arith, cause.0), cause.1.no_less)
no_less told.Created disk disk' source source' cause = (omega (arith, cause.0), omega (arith, cause.1))
no_less (told.Loaded rows) disk disk' source source' cause = (omega (arith, cause.0), omega (arith, cause.1))
no_less told.Exists disk disk' source source' cause = (omega (arith, cause.0), omega (arith, cause.1))
no_less (told.RowTooWide bytes) disk disk' source source' cause = (omega (arith, cause.0), omega (arith, cause.1))
no_less told.CatalogueFull disk disk' source source' cause = (omega (arith, cause.0), omega (arith, cause.1))
no_less told.NoTable disk disk' source source' cause = (omega (arith, cause.0), omega (arith, cause.1))
no_less (told.BadField line column) disk disk' source source' cause = (omega (arith, cause.0), omega (arith, cause.1))
no_less told.TableFull disk disk' source source' cause = (omega (arith, cause.0), omega (arith, cause.1))
no_less (told.BadLine number) disk disk' source source' cause = (omega (arith, cause.0), omega (arith, cause.1))
no_less (told.NotStore page) disk disk' source source' cause = (omega (arith, cause.0), omega (arith, cause.1))
no_less told.NoMemory disk disk' source source' cause = (omega (arith, cause.0), omega (arith, cause.1))

refused : (disk disk' source source' sink sink' : ℕ) → disk' ≡ disk → source' ≡ source → sink' ≡ sink → StatusCause 8 disk disk' source source' sink sink'
refused disk disk' source source' sink sink' d s k = calm 8 disk disk' source source' sink sink' (λ n. omega (arith, n)) (λ n. omega (arith, n)) (λ n. omega (arith, n)) (λ n. omega (arith, n)) d s k

no_memory : (disk disk' source source' sink sink' : ℕ) → disk' ≡ disk → source' ≡ source → sink' ≡ sink → StatusCause 6 disk disk' source source' sink sink'
no_memory disk disk' source source' sink sink' d s k = calm 6 disk disk' source source' sink sink' (λ n. omega (arith, n)) (λ n. omega (arith, n)) (λ n. omega (arith, n)) (λ n. omega (arith, n)) d s k

-- there is no memory for its line
wanting : (told : Told) (disk disk' source source' sink sink' : ℕ) → TakesMemory told → ToldCause told disk disk' source source' → sink' ≡ sink → StatusCause 6 disk disk' source source' sink sink'
wanting told.Created disk disk' source source' sink sink' takes cause k = no_memory disk disk' source source' sink sink' cause.0 cause.1 k
wanting (told.Loaded rows) disk disk' source source' sink sink' takes cause k = no_memory disk disk' source source' sink sink' cause.0 cause.1 k
wanting told.Exists disk disk' source source' sink sink' takes cause k = absurd takes
wanting (told.RowTooWide bytes) disk disk' source source' sink sink' takes cause k = no_memory disk disk' source source' sink sink' cause.0 cause.1 k
wanting told.CatalogueFull disk disk' source source' sink sink' takes cause k = absurd takes
wanting told.NoTable disk disk' source source' sink sink' takes cause k = absurd takes
wanting (told.BadField line column) disk disk' source source' sink sink' takes cause k = no_memory disk disk' source source' sink sink' cause.0 cause.1 k
wanting told.TableFull disk disk' source source' sink sink' takes cause k = absurd takes
wanting (told.BadLine number) disk disk' source source' sink sink' takes cause k = no_memory disk disk' source source' sink sink' cause.0 cause.1 k
wanting (told.NotStore page) disk disk' source source' sink sink' takes cause k = no_memory disk disk' source source' sink sink' cause.0 cause.1 k
wanting told.DiskFault disk disk' source source' sink sink' takes cause k = absurd takes
wanting told.SourceFault disk disk' source source' sink sink' takes cause k = absurd takes
wanting told.NoMemory disk disk' source source' sink sink' takes cause k = absurd takes

-- what is told is told
said : (told : Told) (disk disk' source source' sink sink' : ℕ) → ToldCause told disk disk' source source' → sink' ≡ sink → StatusCause (status_of (told_end told)) disk disk' source source' sink sink'
said told.DiskFault disk disk' source source' sink sink' cause k = disk_rose disk disk' source source' sink sink' cause.0 cause.1 k
said told.SourceFault disk disk' source source' sink sink' cause k = source_rose disk disk' source source' sink sink' cause.0 cause.1 k
said told.Created disk disk' source source' sink sink' cause k = calm 0 disk disk' source source' sink sink' (λ n. omega (arith, n)) (λ n. omega (arith, n)) (λ n. omega (arith, n)) (λ n. omega (arith, n)) cause.0 cause.1 k
said (told.Loaded rows) disk disk' source source' sink sink' cause k = calm 0 disk disk' source source' sink sink' (λ n. omega (arith, n)) (λ n. omega (arith, n)) (λ n. omega (arith, n)) (λ n. omega (arith, n)) cause.0 cause.1 k
said told.Exists disk disk' source source' sink sink' cause k = refused disk disk' source source' sink sink' cause.0 cause.1 k
said (told.RowTooWide bytes) disk disk' source source' sink sink' cause k = refused disk disk' source source' sink sink' cause.0 cause.1 k
said told.CatalogueFull disk disk' source source' sink sink' cause k = refused disk disk' source source' sink sink' cause.0 cause.1 k
said told.NoTable disk disk' source source' sink sink' cause k = refused disk disk' source source' sink sink' cause.0 cause.1 k
said (told.BadField line column) disk disk' source source' sink sink' cause k = refused disk disk' source source' sink sink' cause.0 cause.1 k
said told.TableFull disk disk' source source' sink sink' cause k = refused disk disk' source source' sink sink' cause.0 cause.1 k
said (told.BadLine number) disk disk' source source' sink sink' cause k = calm 1 disk disk' source source' sink sink' (λ n. omega (arith, n)) (λ n. omega (arith, n)) (λ n. omega (arith, n)) (λ n. omega (arith, n)) cause.0 cause.1 k
said (told.NotStore page) disk disk' source source' sink sink' cause k = calm 7 disk disk' source source' sink sink' (λ n. omega (arith, n)) (λ n. omega (arith, n)) (λ n. omega (arith, n)) (λ n. omega (arith, n)) cause.0 cause.1 k
said told.NoMemory disk disk' source source' sink sink' cause k = no_memory disk disk' source source' sink sink' cause.0 cause.1 k

-- the cause of what is told, or of want of memory for its line
pub status_caused : (name : List ℕ) (told : Told) (end : End) (given given' : Option (List ℕ)) (disk disk' source source' sink sink' : ℕ) → ToldCause told disk disk' source source'
    → IsToldOr name told end given given' sink sink' → StatusCause (status_of end) disk disk' source source' sink sink'
status_caused name told end given given' disk disk' source source' sink sink' cause tells =
    let less = no_less told disk disk' source source' cause in
    let failed = λ (is : end ≡ SinkFault) (k : RoseByOne sink sink').
    subst (λ (end : End). StatusCause (status_of end) disk disk' source source' sink sink') (sym is) (sink_rose disk disk' source source' sink sink' less.0 less.1 k) in
    ⊎_elim
    (λ plain. ⊎_elim
    (λ done. subst (λ (end : End). StatusCause (status_of end) disk disk' source source' sink sink') (sym done.0) (said told disk disk' source source' sink sink' cause done.2))
    (λ cut. failed cut.0 cut.2) plain)
    (λ memory. ⊎_elim
    (λ done. subst (λ (end : End). StatusCause (status_of end) disk disk' source source' sink sink') (sym done.0) (wanting told disk disk' source source' sink sink' memory.0 cause done.2))
    (λ cut. failed cut.0 cut.2) memory.1)
    tells
