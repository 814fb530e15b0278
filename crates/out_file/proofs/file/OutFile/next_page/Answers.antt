use Rattle.std.proofs.Common.{◌≡◌, ◌+◌, ◌-◌, ◌%◌, take, drop, length, length-drop, ◌∙◌, arith, rules}
use Rattle.std.proofs.lemmas.List.{length-take-le, take-append-le, take_all}
use Rattle.out_file.proofs.file.OutFile.next_page.Goals as goal

pub returns-clause-bytes : goal.returns-clause-bytes
returns-clause-bytes c =
    let next : (c.args.self.now.written + (4096 - c.args.self.now.written % 4096)) % 4096 ≡ 0 = omega arith in
    let moved = c.copy_within.ensures.after in
    let long : length c.args.self.now.page ≡ 5120 = search rules in
    let rest = drop 4096 c.args.self.now.page in
    let has : length (take (c.args.end - 4096) rest) ≡ c.args.end - 4096 = length-take-le (c.args.end - 4096) rest (omega (arith, long, length-drop 4096 c.args.self.now.page, c.requires.buffer)) in
    rw (next, moved) (take-append-le (c.args.end - 4096) (take (c.args.end - 4096) rest) _ (omega (arith, has)) ∙ take_all (c.args.end - 4096) (take (c.args.end - 4096) rest) (omega (arith, has)))
