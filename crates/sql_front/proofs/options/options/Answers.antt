use Rattle.std.proofs.Common.{rules, refl, sym, ap, ◌∙◌}
use Rattle.sql_tokens.specs.declared.token.What.TheVariants as what
use Rattle.sql_front.specs.Machine.{next_opt_k, add_opt, want_opt, follow_opts, after_options, more_optioned}
use Rattle.sql_front.specs.Reads.{runs, runs_on}
use Rattle.sql_front.specs.Tail.{option_behind}
use Rattle.sql_front.specs.View.{opt_tree}
use Rattle.sql_front.proofs.Passing.{passes_on}
use Rattle.sql_front.proofs.TailLemmas.{option_behind-append, options_tree-append}
use Rattle.sql_front.proofs.options.options.Goals as goal

pub options-preserved : goal.options-preserved
options-preserved c = λ l.
    let behind = option_behind l c.options.options in
    let options = add_opt behind (opt_tree c.in_ok-option.field-0) in
    c.options.invariant l
    ∙ c.in_ok-option.ensures.led behind
    ∙ passes_on (follow_opts options) (want_opt (next_opt_k options)) what.Comma c.option.new.input c.advance.new.self (search rules) c.advance.ensures.rest c.advance.ensures.text refl refl
    ∙ ap (λ k. runs (want_opt k) c.advance.new.self) (sym (option_behind-append l c.options.options c.in_ok-option.field-0) ∙ search rules)

pub returns-in-Close : goal.returns-in-Close
returns-in-Close c = record {
  led = λ l.
      let behind = option_behind l c.options.options in
      let options = add_opt behind (opt_tree c.in_ok-option.field-0) in
      let passed = c.advance-in-Close in
      c.options.invariant l
      ∙ c.in_ok-option.ensures.led behind
      ∙ passes_on (follow_opts options) (after_options options) what.Close c.option.new.input passed.new.self (search rules) passed.ensures.rest passed.ensures.text refl refl
      ∙ ap (λ all. runs_on (more_optioned all) passed.new.self) (sym (options_tree-append l c.options.options c.in_ok-option.field-0) ∙ search rules);
}
