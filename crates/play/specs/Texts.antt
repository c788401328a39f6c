-- What is said of errors and breaches, in words.
--
--   error_text    of what is wrong with a line
--   breach_text   of how an answer breaks the promise
--
-- Assumes nothing.
use Rattle.std.specs.Prelude.{ℕ, List, codes}
use Rattle.play.specs.declared.types.ScriptError.{ScriptError}
use Rattle.play.specs.declared.types.ScriptError.TheVariants as error
use Rattle.play.specs.declared.types.Breach.{Breach}
use Rattle.play.specs.declared.types.Breach.TheVariants as breach

abbrev pub error_text : ScriptError → List ℕ
error_text error.Unprintable = codes "a byte that can't be printed"
error_text error.UnknownVerb = codes "no line begins so"
error_text error.MissingWord = codes "a word is missing"
error_text error.UnknownSetting = codes "a word that no line has"
error_text error.MisplacedSetting = codes "a word that has no place on this line"
error_text error.ManyWords = codes "too many words"
error_text error.NoNumber = codes "a number is wanted, of at most 999,999,999"
error_text error.NoConnection = codes "a connection is wanted, from 0 to 7"
error_text error.NoBody = codes "the body is missing"
error_text error.LongName = codes "a name of more than 255 bytes"
error_text error.ManyNames = codes "more names than there is room for"
error_text error.OtherEtag = codes "this body came with another etag before"
error_text error.OtherBody = codes "this etag belongs to another body"
error_text error.OtherVary = codes "the path varied otherwise before"
error_text error.NoMemory = codes "no memory is left"

abbrev pub breach_text : Breach → List ℕ
breach_text breach.NeverSo = codes "the origin never had it"
breach_text breach.NotSince = codes "not so since it was forwarded"
breach_text breach.TooOld = codes "older than the origin allows"
breach_text breach.BeforeWrite = codes "from before an acknowledged write"
breach_text breach.NotShared = codes "it was for one client only"
breach_text breach.OtherClient = codes "another client had asked"
