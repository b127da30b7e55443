-- Files that are read piece by piece, and layers one behind the other.
use Rattle.std.proofs.Common.{◌≡◌, ◌≤◌, ◌+◌, ℕ, List, [], ◌∷◌, ◌++◌, length, take, drop, refl, sym, ◌∙◌, ap, subst, append_assoc, Option}
use Rattle.std.proofs.Common.{Some, None, Result, Ok, Err, IfSome, IfOk, IfErr, ◌≢◌}
use Rattle.std.specs.List.{AllByRecursion}
use Rattle.std.proofs.lemmas.List.{take-append-drop, length-append, length-take-le}
use Rattle.std.proofs.Math.Seq.{drop-append-add}
use Rattle.ix_fs.specs.Trees.{bytes_at, ReadsAt}
use Rattle.ix_fs.specs.declared.trees.TreeFile.{TreeFile}
use Rattle.ix_conf.specs.Grammar.{pairs, Gives}
use Rattle.ix_conf.specs.declared.entries.Entry.{Entry}
use Rattle.ix_conf.specs.declared.entries.ConfFault.{ConfFault}
use Rattle.ix_conf.specs.declared.layers.Layer.{Layer}
use Rattle.indexd_settings.specs.Layers.{or_empty, text_at, path_in, in_layer, layer_read, IsTextOr, IsOfText, IsBegun, before, led_by}
use Rattle.indexd_settings.specs.Layers.{LayerRefused, Reads}
use Rattle.indexd_settings.specs.declared.layers.LayerFault.{LayerFault}
use Rattle.indexd_settings.specs.declared.layers.SettingsFile.{SettingsFile}
use Rattle.indexd_settings.specs.declared.layers.LayerStop.{LayerStop}
use Rattle.indexd_settings.specs.declared.layers.LayerStop.TheVariants.{Memory, Input, Refused}

-- a piece of what is behind the text stands behind it
piece : (text rest buf : List ℕ) (n : ℕ) → n ≤ length buf → take n buf ≡ take n rest →
    text ++ rest ≡ (text ++ take n buf) ++ drop (length (text ++ take n buf)) (text ++ rest)
piece text rest buf n room same =
    let len : length (text ++ take n buf) ≡ length text + n = length-append text (take n buf)
    ∙ ap (λ k. length text + k) (length-take-le n buf room) in
    let behind : drop (length (text ++ take n buf)) (text ++ rest) ≡ drop n rest = ap (λ k. drop k (text ++ rest)) len
    ∙ drop-append-add text rest n in
    sym (ap (λ r. text ++ r) (take-append-drop n rest)) ∙ sym (append_assoc text (take n rest) (drop n rest))
    ∙ ap (λ t. (text ++ t) ++ drop n rest) (sym same) ∙ ap (λ r. (text ++ take n buf) ++ r) (sym behind)

piece_of : (found : Option (List ℕ)) (text buf : List ℕ) (n : ℕ) → n ≤ length buf → ReadsAt found (length text) n buf →
    or_empty found ≡ text ++ drop (length text) (or_empty found) →
    or_empty found ≡ (text ++ take n buf) ++ drop (length (text ++ take n buf)) (or_empty found)
piece_of None text buf n room reads begun = absurd reads
piece_of (Some bytes) text buf n room reads begun =
    let P : List ℕ → Type 0 = λ b. b ≡ (text ++ take n buf) ++ drop (length (text ++ take n buf)) b in
    subst P (sym begun) (piece text (drop (length text) bytes) buf n room reads.read)

pub begun_further : (files : Option (List TreeFile)) (path text buf : List ℕ) (n : ℕ) → n ≤ length buf →
    IfSome files (λ all. ReadsAt (bytes_at all path) (length text) n buf) →
    IsBegun files path text → IsBegun files path (text ++ take n buf)
begun_further None path text buf n room reads begun = begun
begun_further (Some all) path text buf n room reads begun = piece_of (bytes_at all path) text buf n room reads begun

-- a layer behind the first ones stands before the others
pub led_by_one_more : (first : List Layer) (layer : Layer) (others : Result (List Layer) LayerFault) →
    led_by first (before (Ok layer) others) ≡ led_by (first ++ layer ∷ []) others
led_by_one_more first layer (Err refusal) = refl
led_by_one_more first layer (Ok layers) = ap (λ (l : List Layer). Ok l) (sym (append_assoc first (layer ∷ []) layers))

-- layers of texts with one more behind them
pub texts_more : (layers : List Layer) (layer : Layer) → AllByRecursion IsOfText layers → IsOfText layer →
    AllByRecursion IsOfText (layers ++ layer ∷ [])
texts_more [] layer texts text = (text, tt)
texts_more (first ∷ layers) layer texts text = (texts.0, texts_more layers layer texts.1 text)

-- a layer of entries that were read of a text is of that text
pub layer_of_text : (result : Result Layer LayerStop) (entries : Result (List Entry) ConfFault) →
    IfOk result (λ layer. entries ≡ Ok layer.file) →
    IfOk entries (λ file. (bytes : List ℕ) × (pairs bytes ≡ Ok file)) → IfOk result (λ layer. IsOfText layer)
layer_of_text (Ok layer) entries file text =
    subst (λ (e : Result (List Entry) ConfFault). IfOk e (λ file. (bytes : List ℕ) × (pairs bytes ≡ Ok file))) file text
layer_of_text (Err stop) entries file text = tt

-- what the text at a path says is what the layer is
pub layer_reads : (result : Result Layer LayerStop) (faults faults' : ℕ) (files : Option (List TreeFile)) (file : SettingsFile)
    (name path : List ℕ) (text : Option (List ℕ)) (entries : Result (List Entry) ConfFault) → path ≡ path_in name file →
    IfSome files (λ all. IsTextOr text (text_at all path)) →
    ((bytes : List ℕ) → IsTextOr text bytes → Gives entries (pairs bytes)) →
    IfOk result (λ layer. (bytes : List ℕ) → Gives entries (pairs bytes) → in_layer name (pairs bytes) ≡ Ok layer) →
    IfErr result (λ stop. (bytes : List ℕ) → Gives entries (pairs bytes) → LayerRefused stop (in_layer name (pairs bytes))) →
    result ≢ Err Input → Reads result faults faults' files (λ all. layer_read all file name)
layer_reads (Ok layer) faults faults' None file name path text entries is at gives ok err other = tt
layer_reads (Ok layer) faults faults' (Some all) file name path text entries is at gives ok err other =
    let P : List ℕ → Type 0 = λ p. in_layer name (pairs (text_at all p)) ≡ Ok layer in
    subst P is (ok (text_at all path) (gives (text_at all path) at))
layer_reads (Err Memory) faults faults' files file name path text entries is at gives ok err other = tt
layer_reads (Err Input) faults faults' files file name path text entries is at gives ok err other = absurd (other refl)
layer_reads (Err (Refused refusal)) faults faults' None file name path text entries is at gives ok err other = tt
layer_reads (Err (Refused refusal)) faults faults' (Some all) file name path text entries is at gives ok err other =
    let P : List ℕ → Type 0 = λ p. in_layer name (pairs (text_at all p)) ≡ Err refusal in
    subst P is (err (text_at all path) (gives (text_at all path) at))
