-- From the kinds of an error to whether the words are refused.
use Rattle.std.proofs.Common.{◌≡◌, ◌≢◌, inl, inr, subst, refl, ap, List, [], ◌∷◌, Option, None, Result, Ok, Err}
use Rattle.clap.specs.Kinds.{HasKind, IsAmong, Kinds}
use Rattle.clap.specs.Words.{Text, fault_of, kind_of, subcommand_of}
use Rattle.clap.specs.declared.error.Error.{Error}
use Rattle.clap.specs.declared.error.kind.ErrorKind.TheVariants.{OutOfMemory}
use Rattle.indexd_cli.specs.Table.{table}
use Rattle.indexd_cli.specs.Orders.{Asked, asked, order_in, unless_refused}

abbrev pub err_or : {T E : Type 0} → E → Result T E → E
err_or other (Ok value) = other
err_or other (Err error) = error

-- an error for another cause than memory comes only where some kind does
pub not_memory : (kinds : Kinds) (e : Error) → HasKind kinds e → kind_of e ≢ OutOfMemory → kinds ≢ []
not_memory kinds e (inl memory) other = λ none. absurd (other memory)
not_memory kinds e (inr among) other = λ none. subst (IsAmong (kind_of e)) none among

none_taken : (kinds : Kinds) (order : Option Asked) → kinds ≢ [] → unless_refused kinds order ≡ None
none_taken [] order some = absurd (some refl)
none_taken (kind ∷ kinds) order some = refl

-- words that `clap` refuses ask for nothing
pub refused_is : (words : List Text) → fault_of table words ≢ [] → asked words ≡ None
unfolding asked
refused_is words some = none_taken (fault_of table words) (order_in (subcommand_of table words)) some

-- words that it takes ask for what was found
pub taken_is : (words : List Text) → fault_of table words ≡ [] → asked words ≡ order_in (subcommand_of table words)
unfolding asked
taken_is words none = ap (λ kinds. unless_refused kinds (order_in (subcommand_of table words))) none
