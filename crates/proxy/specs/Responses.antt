-- The proxy's own responses.
--
--   end_of_line      — CR LF
--   unavailable_text — there is no connection to the origin
--   unavailable     — the same, as the name by which it is cited
--
-- Assumes nothing.
use Rattle.std.specs.Prelude.{ℕ, List, [], ◌∷◌, ◌++◌, codes}

abbrev pub end_of_line : List ℕ
end_of_line = 13 ∷ 10 ∷ []

abbrev pub unavailable_text : List ℕ
unavailable_text =
    codes "HTTP/1.1 503 Service Unavailable" ++ (end_of_line ++ (codes "content-length: 0" ++ (end_of_line ++ end_of_line)))

unfoldable pub unavailable : List ℕ
unavailable = unavailable_text
