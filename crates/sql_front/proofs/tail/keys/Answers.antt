use Rattle.std.proofs.Common.{rules, refl, sym, ap, ◌∙◌}
use Rattle.sql_tokens.specs.declared.token.What.TheVariants as what
use Rattle.sql_front.specs.Machine.{next_key_k, add_key, want_key, follow_keys, more_order}
use Rattle.sql_front.specs.Reads.{runs, runs_on}
use Rattle.sql_front.specs.Tail.{key_behind}
use Rattle.sql_front.specs.View.{key_tree}
use Rattle.sql_front.proofs.Passing.{passes_on}
use Rattle.sql_front.proofs.TailLemmas.{key_behind-append, order_tree-append, keys_end}
use Rattle.sql_front.proofs.tail.keys.Goals as goal

pub returns-in_default : goal.returns-in_default
returns-in_default c = record {
  led = λ g.
      let behind = key_behind g c.keys.keys in
      let keys = add_key behind (key_tree c.in_ok-key.field-0) in
      c.keys.invariant g
      ∙ c.in_ok-key.ensures.led behind
      ∙ keys_end keys c.key.new.input (λ same. search rules)
      ∙ ap (λ all. runs_on (more_order all) c.key.new.input) (sym (order_tree-append g c.keys.keys c.in_ok-key.field-0) ∙ search rules);
}

pub keys-preserved : goal.keys-preserved
keys-preserved c = λ g.
    let behind = key_behind g c.keys.keys in
    let keys = add_key behind (key_tree c.in_ok-key.field-0) in
    c.keys.invariant g
    ∙ c.in_ok-key.ensures.led behind
    ∙ passes_on (follow_keys keys) (want_key (next_key_k keys)) what.Comma c.key.new.input c.advance.new.self (search rules) c.advance.ensures.rest c.advance.ensures.text refl refl
    ∙ ap (λ k. runs (want_key k) c.advance.new.self) (sym (key_behind-append g c.keys.keys c.in_ok-key.field-0) ∙ search rules)
