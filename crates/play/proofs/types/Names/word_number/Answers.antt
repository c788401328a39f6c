-- What is found among the first names is found there among all.
use Rattle.std.proofs.Common.{rules, ◌≡◌, take, position, Some, sym}
use Rattle.play.specs.Tables.{is_named}
use Rattle.play.proofs.Fronts.{front_found}
use Rattle.play.proofs.types.Names.word_number.Goals as goal

pub returns-in-Some : goal.returns-in-Some
returns-in-Some c =
    let found : position (is_named c.args.name.now) (take 64 c.args.self.now.items.keys) ≡ Some c.in-Some.number = search rules in
    sym (front_found (is_named c.args.name.now) 64 c.args.self.now.items.keys c.in-Some.number found)
