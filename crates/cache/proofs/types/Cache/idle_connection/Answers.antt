-- The first that is idle is one of the eight.
use Rattle.std.proofs.Common.{sym, ◌∙◌, rules}
use Rattle.store.proofs.Firsts.{found_at, found_past}
use Rattle.cache.specs.Rules.{is_idle}
use Rattle.cache.proofs.types.Cache.idle_connection.Goals as goal

pub returns-in_err-first_idle : goal.returns-in_err-first_idle
returns-in_err-first_idle g c =
    let past = found_past is_idle c.args.self.now.links (sym c.first_idle.ensures ∙ c.in_err-first_idle.was) in
    search rules

pub returns : goal.returns
returns g c =
    let at = found_at is_idle c.args.self.now.links c.in_ok-first_idle.field-0 (sym c.first_idle.ensures ∙ c.in_ok-first_idle.was) in
    search rules
