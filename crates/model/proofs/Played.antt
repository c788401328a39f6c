-- Events in the order in which they happen make the world of their reverse.
use mathlib.Core.Path.{◌≡◌, refl}
use mathlib.Core.List.{List, [], ◌∷◌, reverse_aux}
use Rattle.model.specs.World.{Setting, Event, world, played}
use Rattle.model.specs.Cases.{PlayedIsWorld}

pub played_on : (s : Setting) (es before : List Event) → played s (world s before) es ≡ world s (reverse_aux es before)
unfolding world
played_on s [] before = refl
played_on s (e ∷ es) before = played_on s es (e ∷ before)

pub played_is_world : PlayedIsWorld
unfolding world
played_is_world s es = played_on s es []
