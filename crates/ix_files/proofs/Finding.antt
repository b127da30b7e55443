-- The files of one input more are found.
use Rattle.std.proofs.Common.{◌≡◌, ◌+◌, ◌<◌, ℕ, List, [], ◌∷◌, ◌++◌, length, take, drop, get_or, sym, ap, ◌∙◌, subst, append_assoc}
use Rattle.std.specs.Prelude.{Option, Some, None, IfSome}
use Rattle.std.proofs.lemmas.List.{drop_more, take_more}
use Rattle.ix_fs.specs.declared.trees.TreeFile.{TreeFile}
use Rattle.ix_monitor.specs.declared.inputs.Input.{Input}
use Rattle.ix_monitor.specs.declared.watched.Watched.{Watched}
use Rattle.ix_files.specs.Sought.{sought, sought_in, sought_from}

next_input : (inputs : List Input) (at : ℕ) (input : Input) → at < length inputs → input ≡ get_or inputs at input →
    drop at inputs ≡ input ∷ drop (at + 1) inputs
next_input inputs at input less is = drop_more inputs at input less
    ∙ ap (λ (i : Input). i ∷ drop (at + 1) inputs) (sym is)

behind_input : (inputs : List Input) (at : ℕ) (input : Input) → at < length inputs → input ≡ get_or inputs at input →
    take (at + 1) inputs ≡ take at inputs ++ input ∷ []
behind_input inputs at input less is = take_more inputs at input less
    ∙ ap (λ (i : Input). take at inputs ++ i ∷ []) (sym is)

one_more : (all : List TreeFile) (inputs : List Input) (at : ℕ) (input : Input) (files files' : List Watched) → at < length inputs →
    input ≡ get_or inputs at input → files ++ sought_from all (take at inputs) (drop at inputs) ≡ sought all inputs →
    files' ≡ files ++ sought_in all (take at inputs) input →
    files' ++ sought_from all (take (at + 1) inputs) (drop (at + 1) inputs) ≡ sought all inputs
one_more all inputs at input files files' less is found added =
    ap (λ (l : List Watched). l ++ sought_from all (take (at + 1) inputs) (drop (at + 1) inputs)) added
    ∙ append_assoc files (sought_in all (take at inputs) input) (sought_from all (take (at + 1) inputs) (drop (at + 1) inputs))
    ∙ ap (λ (l : List Input). files ++ (sought_in all (take at inputs) input ++ sought_from all l (drop (at + 1) inputs)))
    (behind_input inputs at input less is)
    ∙ ap (λ (l : List Input). files ++ sought_from all (take at inputs) l) (sym (next_input inputs at input less is))
    ∙ found

-- where the tree tells its files
pub found_more : (told now : Option (List TreeFile)) (inputs : List Input) (at : ℕ) (input : Input) (files files' : List Watched) →
    now ≡ told → at < length inputs → input ≡ get_or inputs at input →
    IfSome told (λ all. files ++ sought_from all (take at inputs) (drop at inputs) ≡ sought all inputs) →
    IfSome now (λ all. files' ≡ files ++ sought_in all (take at inputs) input) →
    IfSome told (λ all. files' ++ sought_from all (take (at + 1) inputs) (drop (at + 1) inputs) ≡ sought all inputs)
found_more told now inputs at input files files' same less is found added =
    by told found (subst (λ (o : Option (List TreeFile)). IfSome o (λ all. files' ≡ files ++ sought_in all (take at inputs) input)) same
    added)
  where
    by : (told : Option (List TreeFile)) →
        IfSome told (λ all. files ++ sought_from all (take at inputs) (drop at inputs) ≡ sought all inputs) →
        IfSome told (λ all. files' ≡ files ++ sought_in all (take at inputs) input) →
        IfSome told (λ all. files' ++ sought_from all (take (at + 1) inputs) (drop (at + 1) inputs) ≡ sought all inputs)
    by None found added = tt
    by (Some all) found added = one_more all inputs at input files files' less is found added
