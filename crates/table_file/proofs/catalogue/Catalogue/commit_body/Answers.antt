use Rattle.std.proofs.Common.{List, ℕ, subst}
use Rattle.std.proofs.lemmas.Result.{on_ok_weaker}
use Rattle.page_store.specs.Store.{BodyReplaced}
use Rattle.table_file.proofs.catalogue.Catalogue.commit_body.Goals as goal

pub returns-clause-committed : goal.returns-clause-committed
returns-clause-committed g c =
    on_ok_weaker c.commit.result
    (λ committed ready image now.
    let old = committed ready image now in
    (old.0, old.1, subst (λ (body : List ℕ). BodyReplaced 0 body old.0 image) c.put_catalogue-len.ensures.bytes old.2))
    c.commit.ensures.committed
