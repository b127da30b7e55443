-- The names of an object's members.
use Rattle.std.proofs.Common.{◌≡◌, ℕ, List, [], ◌∷◌, ◌&&◌, Bool, Some, string_bytes, refl, ap}
use Rattle.std.specs.List.{list_all}
use Rattle.std.specs.Map.{keys_of}
use Rattle.serde_json.specs.Data.{Data, null, boolean, number, string, array, object, Members}
use Rattle.serde_json.specs.Find.{as_object}
use Rattle.serde_json.specs.View.{members_view}
use Rattle.serde_json.proofs.Views.{Entry}
use Rattle.ix_http.specs.Bodies.{names_pass, is_object_of}

pub names_pass-keys : (test : List ℕ → Bool) (es : List Entry) →
    names_pass test (members_view es) ≡ list_all (λ k. test (string_bytes k)) (keys_of es)
names_pass-keys test [] = refl
names_pass-keys test (e ∷ es) = ap (λ b. test (string_bytes e.0) && b) (names_pass-keys test es)

pub object_is : (test : List ℕ → Bool) (d : Data) (ms : Members) → Some ms ≡ as_object d → is_object_of test d ≡ names_pass test ms
object_is test null ms h = cc
object_is test (boolean b) ms h = cc
object_is test (number n) ms h = cc
object_is test (string s) ms h = cc
object_is test (array ds) ms h = cc
object_is test (object ms') ms h = cc
