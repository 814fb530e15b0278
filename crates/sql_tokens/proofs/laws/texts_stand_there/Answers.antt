use Rattle.sql_tokens.proofs.Standing.{stands}
use Rattle.sql_tokens.proofs.laws.texts_stand_there.Goals as goal

pub returns : goal.returns
returns c text before behind token e = stands text before token behind e
