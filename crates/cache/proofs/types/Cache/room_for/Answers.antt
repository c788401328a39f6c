-- It is the place that the definition chooses.
use Rattle.cache.specs.Rules.{state_of}
use Rattle.cache.proofs.Decided.{keeps_given, spares_given}
use Rattle.cache.proofs.types.Cache.room_for.Goals as goal

pub returns-clause-keeps : goal.returns-clause-keeps
returns-clause-keeps g c = keeps_given c.args.c.number (state_of g.S.Store.view c.args.self.now) _ c.choose.ensures

pub returns-clause-spares : goal.returns-clause-spares
returns-clause-spares g c = spares_given c.args.c.number (state_of g.S.Store.view c.args.self.now) _ c.choose.ensures
