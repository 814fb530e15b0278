use Rattle.sql_front.specs.Reads.{parse_tells}
use Rattle.sql_front.specs.View.{query_tree}
use Rattle.sql_tokens.specs.Tokens.{tokens_of}
use Rattle.grammar_laws.proofs.Reading.{found_of, only_of, refused_of, only_refused_of}
use Rattle.sql_front.proofs.Laws.{laws}
use Rattle.sql_front.proofs.ParserLemmas.{parses}
use Rattle.sql_front.proofs.parser.parse.Goals as goal

pub returns-clause-found : goal.returns-clause-found
returns-clause-found c = found_of (laws c.args.text.now) query_tree parse_tells (tokens_of c.args.text.now) c.query.result
    (parses c.args.text.now c.new-input.result c.query.new.input c.query.result c.new-input.ensures.text c.new-input.ensures.tokens c.query.ensures.led)

pub returns-clause-only : goal.returns-clause-only
returns-clause-only c = only_of (laws c.args.text.now) query_tree parse_tells (tokens_of c.args.text.now) c.query.result
    (parses c.args.text.now c.new-input.result c.query.new.input c.query.result c.new-input.ensures.text c.new-input.ensures.tokens c.query.ensures.led)

pub returns-clause-refused : goal.returns-clause-refused
returns-clause-refused c = refused_of (laws c.args.text.now) query_tree parse_tells (tokens_of c.args.text.now) c.query.result
    (parses c.args.text.now c.new-input.result c.query.new.input c.query.result c.new-input.ensures.text c.new-input.ensures.tokens c.query.ensures.led)

pub returns-clause-only_refused : goal.returns-clause-only_refused
returns-clause-only_refused c = only_refused_of (laws c.args.text.now) query_tree parse_tells (tokens_of c.args.text.now) c.query.result
    (parses c.args.text.now c.new-input.result c.query.new.input c.query.result c.new-input.ensures.text c.new-input.ensures.tokens c.query.ensures.led)
