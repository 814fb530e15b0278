use Rattle.std.proofs.Common.{rules}
use Rattle.sql_front.proofs.TailLemmas.{size_leads}
use Rattle.sql_front.proofs.options.sized.Goals as goal

pub returns-in_err-n-clause-led : goal.returns-in_err-n-clause-led
returns-in_err-n-clause-led c = λ k.
    let leads = size_leads c.args.setting c.peek-at.result.at c.most_of.result k c.advance.new.self c.number.new.input c.number.result c.most_of.ensures c.number.ensures.led in
    search rules

pub returns-clause-led : goal.returns-clause-led
returns-clause-led c = λ k.
    let leads = size_leads c.args.setting c.peek-at.result.at c.most_of.result k c.advance.new.self c.number.new.input c.number.result c.most_of.ensures c.number.ensures.led in
    search rules
