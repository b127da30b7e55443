-- What words of the usual forms ask for, in plain terms.
use Rattle.std.specs.Prelude.{◌≡◌, ◌≢◌, ◌++◌, ◌&&◌, ℕ, true, false, List, [], ◌∷◌, Option, Some, None, codes, if◌then◌else◌, slice_index}
use Rattle.std.specs.Prelude.{option_map, option_and_then}
use Rattle.std.specs.List.{list_any}
use Rattle.std.specs.Str.{bytes_eq}
use Rattle.indexd_cli.specs.Values.{is_name, is_file, number_in, seconds_of}
use Rattle.indexd_cli.specs.Orders.{asked, preview, btool, feed, serve, monitor, buckets, export, roll, thaw, tick, selftest}

-- the word does not begin with `-` (45)
abbrev pub IsPlain : List ℕ → Type 0
IsPlain word = slice_index word 0 ≢ 45

-- of two values, where there are both
abbrev pub of_both : {X Y Z : Type 0} → (X → Y → Z) → Option X → Option Y → Option Z
of_both f x y = option_and_then (λ first. option_map (f first) y) x

-- preview --host HOST --source SOURCE
abbrev pub PreviewIsAsked : Type 0
PreviewIsAsked =
    (host source : List ℕ) → IsPlain host → IsPlain source →
    asked (codes "preview" ∷ codes "--host" ∷ host ∷ codes "--source" ∷ source ∷ [])
    ≡ (if is_name host && is_name source then Some (preview host source None None false) else None)

-- preview --host=HOST --source=SOURCE --sourcetype=TYPE --index=INDEX --store
abbrev pub WholePreviewIsAsked : Type 0
WholePreviewIsAsked =
    (host source sourcetype index : List ℕ) →
    asked (codes "preview" ∷ (codes "--host=" ++ host) ∷ (codes "--source=" ++ source)
    ∷ (codes "--sourcetype=" ++ sourcetype) ∷ (codes "--index=" ++ index) ∷ codes "--store" ∷ [])
    ≡ (if is_name host && (is_name source && is_name sourcetype)
    then Some (preview host source (Some sourcetype) (Some index) true) else None)

-- btool FILE
abbrev pub BtoolIsAsked : Type 0
BtoolIsAsked =
    (file : List ℕ) → IsPlain file →
    asked (codes "btool" ∷ file ∷ []) ≡ (if is_file file then Some (btool file) else None)

-- serve --port PORT --requests COUNT
abbrev pub ServeIsAsked : Type 0
ServeIsAsked =
    (port count : List ℕ) → IsPlain port → IsPlain count →
    asked (codes "serve" ∷ codes "--port" ∷ port ∷ codes "--requests" ∷ count ∷ [])
    ≡ of_both serve (number_in 0 65535 port) (number_in 1 1000000 count)

-- monitor, and monitor --close
pub record MonitorIsAsked : Type 0 where
  pub bare : asked (codes "monitor" ∷ []) ≡ Some (monitor false)
  pub close : asked (codes "monitor" ∷ codes "--close" ∷ []) ≡ Some (monitor true)

-- export INDEX
abbrev pub ExportIsAsked : Type 0
ExportIsAsked =
    (index : List ℕ) → IsPlain index →
    asked (codes "export" ∷ index ∷ []) ≡ Some (export index (record { earliest = None; latest = None }))

-- export --earliest=EARLIEST --latest=LATEST INDEX
abbrev pub RangeIsAsked : Type 0
RangeIsAsked =
    (earliest latest index : List ℕ) → IsPlain index →
    asked (codes "export" ∷ (codes "--earliest=" ++ earliest) ∷ (codes "--latest=" ++ latest) ∷ index ∷ [])
    ≡ of_both (λ first last. export index (record { earliest = Some first; latest = Some last }))
    (seconds_of earliest) (seconds_of latest)

-- roll INDEX
abbrev pub RollIsAsked : Type 0
RollIsAsked = (index : List ℕ) → IsPlain index → asked (codes "roll" ∷ index ∷ []) ≡ Some (roll index)

-- thaw INDEX ID
abbrev pub ThawIsAsked : Type 0
ThawIsAsked =
    (index id : List ℕ) → IsPlain index → IsPlain id →
    asked (codes "thaw" ∷ index ∷ id ∷ []) ≡ option_map (thaw index) (number_in 0 18446744073709551615 id)

-- selftest SEED COUNT
abbrev pub SelftestIsAsked : Type 0
SelftestIsAsked =
    (seed count : List ℕ) → IsPlain seed → IsPlain count →
    asked (codes "selftest" ∷ seed ∷ count ∷ [])
    ≡ of_both selftest (number_in 0 18446744073709551615 seed) (number_in 1 1000000 count)

-- feed, buckets and tick, alone
pub record SingleWordsAreAsked : Type 0 where
  pub feed_asked : asked (codes "feed" ∷ []) ≡ Some feed
  pub buckets_asked : asked (codes "buckets" ∷ []) ≡ Some buckets
  pub tick_asked : asked (codes "tick" ∷ []) ≡ Some tick

-- the names of all commands
abbrev pub command_names : List (List ℕ)
command_names =
    codes "preview" ∷ codes "btool" ∷ codes "feed" ∷ codes "serve" ∷ codes "monitor" ∷ codes "buckets"
    ∷ codes "export" ∷ codes "roll" ∷ codes "thaw" ∷ codes "tick" ∷ codes "selftest" ∷ []

-- no words, and words of which the first is no command, ask for nothing
pub record OthersAreUsage : Type 0 where
  pub none : asked [] ≡ None
  pub other : (word : List ℕ) (rest : List (List ℕ)) → IsPlain word →
      list_any (λ name. bytes_eq name word) command_names ≡ false → asked (word ∷ rest) ≡ None
