-- The keys of a transform are judged one after the other.
use Rattle.std.proofs.Common.{◌≡◌, ℕ, ◌||◌, Bool, true, false, List, [], ◌∷◌, ◌++◌, map, append_assoc, Option, Some, None, refl, sym, subst}
use Rattle.std.specs.Prelude.{IsSome, is_some, codes}
use Rattle.std.specs.Option.{option_map}
use Rattle.std.proofs.lemmas.List.{map-append}
use Rattle.ix_conf_values.specs.declared.escapes.Part.{Part}
use Rattle.ix_conf_values.specs.declared.escapes.Part.TheVariants.{Byte, Group}
use Rattle.ix_conf_values.specs.declared.transforms.Key.{Key}
use Rattle.ix_pattern.specs.Rows.{Shape}
use Rattle.ix_conf_values.specs.declared.transforms.TransformFault.{TransformFault}
use Rattle.ix_conf_values.specs.declared.transforms.TransformFault.TheVariants.{BadValue, BadPattern, NoMemory}
use Rattle.ix_conf_values.specs.Transforms.{Values, RegexIs, IsBadValue, RefusesTransform, bad_dest, bad_lookahead, bad_source}
use Rattle.ix_conf_values.specs.Transforms.{bad_write_meta, default_format, dest_from, dest_of, key_of, lookahead_of, no_dest, source_of}
use Rattle.ix_conf_values.specs.Transforms.{write_meta_of}

pub is_there : {A : Type 0} (o : Option A) (x : A) → Some x ≡ o → IsSome o
is_there None x e = cc
is_there (Some y) x e = refl

pub refuse_dest : (v : Values) (fault : TransformFault) → IsBadValue (codes "DEST_KEY") fault → None ≡ dest_of v → RefusesTransform v fault
refuse_dest v (BadValue key) bad none = bad_dest bad (sym none)
refuse_dest v (BadPattern key fault) bad none = absurd bad
refuse_dest v NoMemory bad none = tt

pub refuse_lookahead : (v : Values) (fault : TransformFault) → IsBadValue (codes "LOOKAHEAD") fault → IsSome (dest_of v) →
    None ≡ lookahead_of v → RefusesTransform v fault
refuse_lookahead v (BadValue key) bad dest none = bad_lookahead bad dest (sym none)
refuse_lookahead v (BadPattern key fault) bad dest none = absurd bad
refuse_lookahead v NoMemory bad dest none = tt

pub refuse_source : (v : Values) (fault : TransformFault) (shape : Shape) → IsBadValue (codes "SOURCE_KEY") fault →
    IsSome (dest_of v) → IsSome (lookahead_of v) → RegexIs v.regex shape → None ≡ source_of v → RefusesTransform v fault
refuse_source v (BadValue key) shape bad dest lookahead regex none = bad_source bad dest lookahead shape regex (sym none)
refuse_source v (BadPattern key fault) shape bad dest lookahead regex none = absurd bad
refuse_source v NoMemory shape bad dest lookahead regex none = tt

pub refuse_write_meta : (v : Values) (fault : TransformFault) (shape : Shape) → IsBadValue (codes "WRITE_META") fault →
    IsSome (dest_of v) → IsSome (lookahead_of v) → RegexIs v.regex shape → IsSome (source_of v) → write_meta_of v ≡ None →
    RefusesTransform v fault
refuse_write_meta v (BadValue key) shape bad dest lookahead regex source none = bad_write_meta bad dest lookahead shape regex source none
refuse_write_meta v (BadPattern key fault) shape bad dest lookahead regex source none = absurd bad
refuse_write_meta v NoMemory shape bad dest lookahead regex source none = tt

-- a destination that is stated is a key
stated : (key : Option Key) → Some None ≡ option_map (λ k. Some k) key → ⊥
stated None is = cc
stated (Some key) is = cc

-- without a key the indexed fields are written
pub destined : (writes_meta : Option Bool) (text : Option (List ℕ)) (dest : Option Key) (write_meta : Bool) →
    Some dest ≡ dest_from writes_meta text → writes_meta ≡ Some write_meta → (is_some dest || write_meta) ≡ true
destined writes_meta text (Some key) write_meta some is = refl
destined writes_meta text None true some is = refl
destined writes_meta None None false some is =
    let none : Some None ≡ no_dest (Some false) = subst (λ w. Some None ≡ no_dest w) is some in cc
destined writes_meta (Some name) None false some is = absurd (stated (key_of name) some)

-- what is written where nothing else is said
pub named : (before : List Part) (stanza : List ℕ) →
    ((before ++ map (λ b. Byte b) stanza) ++ map (λ b. Byte b) (codes "::")) ++ Group 1 ∷ [] ≡ before ++ default_format stanza
named before stanza = simp (map-append, append_assoc)
