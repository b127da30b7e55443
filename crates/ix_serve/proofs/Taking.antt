-- What requests add to a history may be given to the store.
use Rattle.std.proofs.Common.{◌≡◌, ◌∙◌, ℤ, List, [], ◌++◌, refl, sym, ap, subst, inl, inr, Result, Ok, Err}
use Rattle.std.specs.Prelude.{IfOk}
use Rattle.std.specs.List.{AllByRecursion}
use Rattle.std.proofs.lemmas.List.{append-nil}
use Rattle.ix_heads.specs.declared.faults.LinkFault.TheVariants as link
use Rattle.ix_http.specs.Limits.{IsWithin, KeepsLimits}
use Rattle.ix_http.specs.declared.kinds.Ask.{Ask}
use Rattle.ix_http.specs.declared.kinds.Ask.TheVariants as asks
use Rattle.ix_http.specs.declared.kinds.Incoming.TheVariants as was
use Rattle.ix_model.specs.declared.commands.Command.{Command}
use Rattle.ix_model.specs.declared.commands.Command.TheVariants as commands
use Rattle.ix_model.specs.declared.commands.TimedCommand.{TimedCommand}
use Rattle.ix_store.proofs.Joining.{more_taken}
use Rattle.ix_serve.specs.Answer.{Answer, Found, Says, MayBe, MayChange}
use Rattle.ix_serve.specs.Entries.{Entry, order}
use Rattle.ix_serve.specs.Replies.{Reply}
use Rattle.ix_serve.specs.Taking.{TakesAsks}
use Rattle.ix_serve.specs.declared.served.Served.{Served}
use Rattle.ix_serve.specs.declared.served.ServeFault.{ServeFault}

module _ (takes : TimedCommand → Type 0) (ticks : (moment : ℤ) →
    takes (record { command = commands.Tick; moment = moment })) (asked : TakesAsks takes) (e : Entry)
    (given : AllByRecursion takes e.history) where
  none_taken : AllByRecursion takes (e.history ++ [])
  none_taken = subst (λ (l : List TimedCommand). AllByRecursion takes l) (sym (append-nil e.history)) given

  change_taken : (command : Command) (good : Reply) (a : Answer) → takes (order e command) → MayChange e command good a →
      AllByRecursion takes (e.history ++ a.more)
  change_taken command good a may (inl is) =
      subst (λ (x : Answer). AllByRecursion takes (e.history ++ x.more)) (sym is.1)
      (more_taken takes ticks e.choose e.history (order e command) given may)
  change_taken command good a may (inr is) = subst (λ (x : Answer). AllByRecursion takes (e.history ++ x.more)) (sym is.2) none_taken

  same_taken : (a b : Answer) → a ≡ b → b.more ≡ [] → AllByRecursion takes (e.history ++ a.more)
  same_taken a b is none = subst (λ (l : List TimedCommand). AllByRecursion takes (e.history ++ l))
      (sym (ap (λ (x : Answer). x.more) is ∙ none)) none_taken

  ask_taken : (told : Type 0) (ask : Ask) (result : Result Served ServeFault) (a : Answer) → KeepsLimits ask → MayBe e told ask result a →
      AllByRecursion takes (e.history ++ a.more)
  ask_taken told (asks.Begin channel meta) result a keeps is = change_taken _ _ a (asked.begins channel meta e.moment keeps.0 keeps.1) is
  ask_taken told (asks.Block channel bytes) result a keeps is = change_taken _ _ a (asked.blocks channel bytes e.moment keeps.0 keeps.1) is
  ask_taken told (asks.End channel) result a keeps is = change_taken _ _ a (asked.ends channel e.moment keeps) is
  ask_taken told (asks.Acks run numbers) result a keeps (inl is) = same_taken a _ is refl
  ask_taken told (asks.Acks run numbers) result a keeps (inr is) = same_taken a _ is refl
  ask_taken told asks.Buckets result a keeps (inl is) = same_taken a _ is refl
  ask_taken told asks.Buckets result a keeps (inr is) = same_taken a _ is refl
  ask_taken told (asks.Events index range) result a keeps (inl is) = same_taken a _ is.2 refl
  ask_taken told (asks.Events index range) result a keeps (inr (inl is)) = same_taken a _ is refl
  ask_taken told (asks.Events index range) result a keeps (inr (inr is)) = same_taken a _ is.2 refl

  pub says_taken : (told : Type 0) (read : Found) (result : Result Served ServeFault) (a : Answer) → IfOk read IsWithin →
      Says e told read result a → AllByRecursion takes (e.history ++ a.more)
  says_taken told (Ok was.Ended) result a keeps is = same_taken a _ is.1 refl
  says_taken told (Ok (was.Asked ask)) result a keeps is = ask_taken told ask result a keeps is
  says_taken told (Ok (was.Refused why delimited)) result a keeps is = same_taken a _ is refl
  says_taken told (Err link.Failed) result a keeps is = same_taken a _ is.1 refl
  says_taken told (Err link.Cut) result a keeps is = same_taken a _ is.1 refl
  says_taken told (Err (link.NoMemory whole)) result a keeps is = same_taken a _ is refl
