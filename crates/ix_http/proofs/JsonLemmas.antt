-- The value of a body.
use Rattle.std.proofs.Common.{◌≡◌, ℕ, List, Bool, true, false, cond, Option, Some, None, refl, sym}
use Rattle.std.specs.Str.{is_utf8}
use Rattle.std.proofs.lemmas.Str.{IsUtf8-from_is_utf8, is_utf8-from_IsUtf8}
use Rattle.serde_json.specs.Data.{Data}
use Rattle.serde_json.specs.Read.{read}
use Rattle.ix_http.specs.Bodies.{IsJson, json_of}

pub json_is : (body : List ℕ) (o : Option Data) → IsJson body o → o ≡ json_of body
unfolding json_of
json_is body (Some d) is = rw (is_utf8-from_IsUtf8 body is.0) (sym is.1)
json_is body None is = by (is_utf8 body) refl
  where
    by : (b : Bool) → is_utf8 body ≡ b → None ≡ cond b (read body) None
    by true e = sym (is (IsUtf8-from_is_utf8 body e))
    by false e = refl
