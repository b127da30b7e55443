-- Bytes are staged behind those of a file.
use Rattle.std.proofs.Common.{◌≡◌, ◌≢◌, ◌⊎◌, ℕ, zero, suc, ◌<◌, List, [], ◌∷◌, ◌++◌, length, get_or, set, Bool, true, false, if◌then◌else◌}
use Rattle.std.proofs.Common.{refl, ap, subst, sym, ◌∙◌, ⊎_elim, inl, inr, arith, append_assoc}
use Rattle.std.specs.Prelude.{All, Contains}
use Rattle.std.specs.List.{AllByRecursion}
use Rattle.std.proofs.lemmas.List.{map-append, length-map, get_or-map}
use Rattle.std.proofs.lemmas.List.Elements.{All-from_recursion, recursion_from_All, All-push, All-map, All-contains, Contains-append_left}
use Rattle.std.proofs.lemmas.List.Elements.{Contains-push, Contains-get_or}
use Rattle.ix_base.specs.declared.files.File.{File}
use Rattle.ix_disk.specs.Files.{is_same, is_it, told_same, told_other}
use Rattle.ix_commit.specs.Contents.{Filling, more_in}
use Rattle.ix_commit.specs.Parts.{IsPart, AreParts, AreApart, file_in, files_of, more_staged}
use Rattle.ix_commit.specs.declared.staged_append.StagedAppend.{StagedAppend}

chosen : (test told : Bool) (x y : List ℕ) → test ≡ told → (if test then x else y) ≡ (if told then x else y)
chosen test told x y is = ap (λ (t : Bool). if t then x else y) is

files_set : (parts : List StagedAppend) (k : ℕ) (d : StagedAppend) (bytes : List ℕ) →
    files_of (set parts k (more_staged (get_or parts k d) bytes)) ≡ files_of parts
files_set [] k d bytes = refl
files_set (p ∷ parts) zero d bytes = refl
files_set (p ∷ parts) (suc k) d bytes = ap (λ (l : List File). (file_in p) ∷ l) (files_set parts k d bytes)

at_apart : (parts : List StagedAppend) (k : ℕ) (d : StagedAppend) (file : File) → k < length parts →
    AllByRecursion (λ other. other ≢ file) (files_of parts) → file_in (get_or parts k d) ≢ file
at_apart [] k d file within apart = absurd (omega (arith, within))
at_apart (p ∷ parts) zero d file within apart = apart.0
at_apart (p ∷ parts) (suc k) d file within apart = at_apart parts k d file (omega (arith, within)) apart.1

-- each part of other files, where each was one
keep_rest : (P Q : StagedAppend → Type 0) (file : File) (parts : List StagedAppend) →
    AllByRecursion (λ other. other ≢ file) (files_of parts) → AllByRecursion P parts →
    ((q : StagedAppend) → (file_in q) ≢ file → P q → Q q) → AllByRecursion Q parts
keep_rest P Q file [] apart all so = tt
keep_rest P Q file (p ∷ parts) apart all so = (so p apart.0 all.0, keep_rest P Q file parts apart.1 all.1 so)

apart_push : (files : List File) (file : File) → AreApart files → AllByRecursion (λ other. other ≢ file) files →
    AreApart (files ++ file ∷ [])
apart_push [] file apart ne = (tt, tt)
apart_push (first ∷ files) file apart ne = (more files apart.0, apart_push files file apart.1 ne.1)
  where
    more : (l : List File) → AllByRecursion (λ other. other ≢ first) l → AllByRecursion (λ other. other ≢ first) (l ++ file ∷ [])
    more [] all = ((λ same. ne.0 (sym same)), tt)
    more (x ∷ l) all = (all.0, more l all.1)

files_ne : (file : File) (parts : List StagedAppend) → All (λ (p : StagedAppend). (file_in p) ≢ file) parts →
    AllByRecursion (λ other. other ≢ file) (files_of parts)
files_ne file parts all = recursion_from_All (λ (f : File). f ≢ file) (files_of parts) (All-map (λ (f : File). f ≢ file) file_in parts all)

module _ (old new : Filling) (file : File) (bytes : List ℕ) where
  pub here : more_in file bytes new file ≡ new file ++ bytes
  here = chosen (is_same file file) true (new file ++ bytes) (new file) (told_same file file refl)

  pub elsewhere : (f : File) → f ≢ file → more_in file bytes new f ≡ new f
  elsewhere f ne = chosen (is_same f file) false (new f ++ bytes) (new f) (told_other f file ne)

  part_elsewhere : (q : StagedAppend) → (file_in q) ≢ file → IsPart old new q → IsPart old (more_in file bytes new) q
  part_elsewhere q ne is = record { committed = is.committed; staged = elsewhere (file_in q) ne ∙ is.staged }

  part_here : (q : StagedAppend) → (file_in q) ≡ file → IsPart old new q → IsPart old (more_in file bytes new) (more_staged q bytes)
  part_here q same is = record {
    committed = is.committed;
    staged = ap (more_in file bytes new) same ∙ here ∙ ap (λ (l : List ℕ). l ++ bytes) (ap new (sym same) ∙ is.staged)
        ∙ append_assoc (old (file_in q)) q.staged bytes;
  }

  set_each : (parts : List StagedAppend) (k : ℕ) (d : StagedAppend) → k < length parts → AreApart (files_of parts) →
      AllByRecursion (IsPart old new) parts → file_in (get_or parts k d) ≡ file
      → AllByRecursion (IsPart old (more_in file bytes new)) (set parts k (more_staged (get_or parts k d) bytes))
  set_each [] k d within apart each same = absurd (omega (arith, within))
  set_each (p ∷ parts) zero d within apart each same = (
    part_here p same each.0,
    keep_rest (IsPart old new) (IsPart old (more_in file bytes new)) (file_in p) parts apart.0 each.1
        (λ q ne is. part_elsewhere q (λ (q_is : (file_in q) ≡ file). ne (q_is ∙ sym same)) is),
  )
  set_each (p ∷ parts) (suc k) d within apart each same = (
    part_elsewhere p (λ (p_is : (file_in p) ≡ file). at_apart parts k d (file_in p) (omega (arith, within)) apart.0 (same ∙ sym p_is))
        each.0,
    set_each parts k d (omega (arith, within)) apart.1 each.1 same,
  )

  other_files : (parts : List StagedAppend) → Contains (files_of parts) file →
      ((f : File) → (new f ≡ old f) ⊎ Contains (files_of parts) f) → (f : File) → (more_in file bytes new f ≡ old f)
      ⊎ Contains (files_of parts) f
  other_files parts found others f = ⊎_elim
      (λ (same : f ≡ file). inr (subst (Contains (files_of parts)) (sym same) found))
      (λ (ne : f ≢ file). ⊎_elim
      (λ (kept : new f ≡ old f). inl (elsewhere f ne ∙ kept))
      (λ (found : Contains (files_of parts) f). inr found)
      (others f))
      (is_it f file)

  -- more bytes in a part
  pub parts_set : (parts : List StagedAppend) (k : ℕ) (d : StagedAppend) → k < length parts → file_in (get_or parts k d) ≡ file →
      AreParts old new parts → AreParts old (more_in file bytes new) (set parts k (more_staged (get_or parts k d) bytes))
  parts_set parts k d within same are =
      let after = set parts k (more_staged (get_or parts k d) bytes) in
      let files : files_of after ≡ files_of parts = files_set parts k d bytes in
      let contained : Contains (files_of parts) file = subst (Contains (files_of parts)) (get_or-map file_in parts k d (file_in d) within
      ∙ same) (Contains-get_or (files_of parts) k (file_in d) (subst (λ (n : ℕ). k < n) (sym (length-map parts file_in)) within)) in
      record {
        each = All-from_recursion (IsPart old (more_in file bytes new)) after
            (set_each parts k d within are.distinct (recursion_from_All (IsPart old new) parts are.each) same);
        others = subst (λ (l : List File). (f : File) → (more_in file bytes new f ≡ old f)
            ⊎ Contains l f) (sym files) (other_files parts contained are.others);
        distinct = subst AreApart (sym files) are.distinct;
      }

  same_yet : (parts : List StagedAppend) → All (λ (p : StagedAppend). (file_in p) ≢ file) parts → AreParts old new parts →
      new file ≡ old file
  same_yet parts none are = ⊎_elim
      (λ (same : new file ≡ old file). same)
      (λ (found : Contains (files_of parts) file). absurd
      (All-contains (λ (f : File). f ≢ file) (files_of parts) file (All-map (λ (f : File). f ≢ file) file_in parts none) found refl))
      (are.others file)

  -- a part more
  pub parts_push : (parts : List StagedAppend) (part : StagedAppend) → All (λ (p : StagedAppend). (file_in p) ≢ file) parts →
      (file_in part) ≡ file → part.committed ≡ length (new file) → part.staged ≡ bytes
      → AreParts old new parts → AreParts old (more_in file bytes new) (parts ++ part ∷ [])
  parts_push parts part none is at staged are =
      let Q = IsPart old (more_in file bytes new) in
      let yet : new file ≡ old file = same_yet parts none are in
      let ne = files_ne file parts none in
      let files : files_of (parts ++ part ∷ []) ≡ files_of parts ++ (file_in part) ∷ [] = map-append file_in parts (part ∷ []) in
      record {
        each = All-push Q parts part
            (All-from_recursion Q parts (keep_rest (IsPart old new) Q file parts ne (recursion_from_All (IsPart old new) parts are.each)
            part_elsewhere))
            (record {
              committed = at ∙ ap length (yet ∙ ap old (sym is));
              staged = ap (more_in file bytes new) is ∙ here ∙ (λ i. (yet ∙ ap old (sym is)) i ++ sym staged i);
            });
        others = λ f. subst (λ (l : List File). (more_in file bytes new f ≡ old f) ⊎ Contains l f) (sym files) (⊎_elim
            (λ (same : f ≡ file). inr (subst (Contains (files_of parts ++ (file_in part) ∷ [])) (is
            ∙ sym same) (Contains-push (files_of parts) (file_in part))))
            (λ (other : f ≢ file). ⊎_elim
            (λ (kept : new f ≡ old f). inl (elsewhere f other ∙ kept))
            (λ (found : Contains (files_of parts) f). inr (Contains-append_left (files_of parts) ((file_in part) ∷ []) f found))
            (are.others f))
            (is_it f file));
        distinct = subst AreApart (sym files) (apart_push (files_of parts) (file_in part) are.distinct
            (subst (λ (f : File). AllByRecursion (λ other. other ≢ f) (files_of parts)) (sym is) ne));
      }
