-- What holds of an answer, by what holds of the one that is handed on.
use Rattle.std.proofs.Common.{Ok, Err}
use Rattle.std.specs.Prelude.{Result, IfOk}

pub if-ok : {T E : Type 0} {P Q : T → Type 0} (r : Result T E) → IfOk r P → ((t : T) → P t → Q t) → IfOk r Q
if-ok (Ok t) p f = f t p
if-ok (Err e) p f = p

pub if-ok-both : {T E : Type 0} {P Q R : T → Type 0} (r : Result T E) → IfOk r P → IfOk r Q → ((t : T) → P t → Q t → R t) → IfOk r R
if-ok-both (Ok t) p q f = f t p q
if-ok-both (Err e) p q f = p
