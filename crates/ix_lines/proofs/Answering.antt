-- What holds of an answer.
use Rattle.std.proofs.Common.{Ok, Err, rules}
use Rattle.std.specs.Prelude.{Result, OnOk, OnErr}

pub map-ok : {T E : Type 0} {P Q : Type 0} (r : Result T E) → OnOk r P → (P → Q) → OnOk r Q
map-ok (Ok x) p f = f p
map-ok (Err e) p f = p

pub map-err : {T E : Type 0} {P Q : Type 0} (r : Result T E) → OnErr r P → (P → Q) → OnErr r Q
map-err (Ok x) p f = p
map-err (Err e) p f = f p

pub any-err : {T E : Type 0} {P : Type 0} (r : Result T E) → P → OnErr r P
any-err (Ok x) p = search rules
any-err (Err e) p = p
