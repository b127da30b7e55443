-- How words are read that are written out but for some values.
use Rattle.std.proofs.Common.{◌≡◌, ◌∙◌, ◌==◌, ℕ, Bool, true, false, List, [], ◌∷◌, ◌++◌, Option, Some, None, refl, sym, ap, codes}
use Rattle.std.proofs.Common.{append_assoc, append-nil, ne_eqb, true≢false, is_some, map, length, arith, ℤ}
use Rattle.std.specs.Prelude.{◌&&◌, ◌||◌, slice_index, fold, find, option_map, option_and_then, if◌then◌else◌}
use Rattle.std.specs.List.{list_any}
use Rattle.std.specs.Option.{option_map_or}
use Rattle.std.specs.Str.{bytes_eq}
use Rattle.clap.specs.Kinds.{Kinds, or_else}
use Rattle.clap.specs.Words.{Rule, Shape, App, Text, fault_of, subcommand_of, built}
use Rattle.clap.specs.Walk.{Held, Names, Walk, option, idle, value, walk, walked, walk_from, nothing_held, option_word, arg_by_id}
use Rattle.clap.specs.Walk.{arg_by_index, to_positional, settled, finished, answers_to, subcommand_met, subcommand_or_other}
use Rattle.clap.specs.Simple.{names_of, label_of, rows_at, built_leaf, inherited, with_leaf_noted, marked_built, entered}
use Rattle.clap.specs.Faults.{walk_fault, turn_fault, step_fault, level_fault, settle_fault, defaults_fault, check_fault, entered_fault}
use Rattle.clap.specs.Faults.{other_fault}
use Rattle.clap.specs.declared.error.kind.ErrorKind.TheVariants.{UnknownArgument, InvalidSubcommand}
use Rattle.clap.proofs.OnLiterals.{clap_on_literals}
use Rattle.clap.proofs.FaultLemmas.{stopped_fault}
use Rattle.indexd_cli.specs.Table as app
use Rattle.indexd_cli.specs.Values.{is_name, is_file, name_of, file_of, number_in, seconds_of}
use Rattle.indexd_cli.specs.Orders.{asked, preview, btool, serve, export, roll, thaw, selftest, preview_of, serve_of, range_of, export_of}
use Rattle.indexd_cli.specs.Orders.{thaw_of, selftest_of, order_of, order_in}
use Rattle.indexd_cli.specs.Plain.{IsPlain, of_both, command_names, PreviewIsAsked, WholePreviewIsAsked, BtoolIsAsked, ServeIsAsked}
use Rattle.indexd_cli.specs.Plain.{MonitorIsAsked, ExportIsAsked, RangeIsAsked, RollIsAsked, ThawIsAsked, SelftestIsAsked}
use Rattle.indexd_cli.specs.Plain.{SingleWordsAreAsked, OthersAreUsage}
use Rattle.indexd_cli.proofs.TableLemmas.{the_table}
use Rattle.indexd_cli.proofs.ParseLemmas.{refused_is, taken_is}

-- ---- one word

-- the walk between two words, and while an option waits for its value; `position` is that of the
-- next word that stands for itself
abbrev idle_at : Held → ℕ → Walk
idle_at h position = record { held = h; waiting = idle; position = position; is_trailing = false; stopped = None }

abbrev waiting_for : Held → Text → ℕ → Walk
waiting_for h id position = record { held = h; waiting = option id; position = position; is_trailing = false; stopped = None }

-- the walk once the option has its value
abbrev with_value : List Rule → Held → Text → ℕ → Text → Walk
with_value c h id position word = record {
  held = (option_word (arg_by_id c id) id word h).0;
  waiting = (option_word (arg_by_id c id) id word h).1;
  position = position;
  is_trailing = false;
  stopped = None;
}

-- and once a word is read that stands for itself
abbrev with_word : List Rule → Held → ℕ → Text → Walk
with_word c h position word = to_positional c (arg_by_index c position) word (idle_at h position) h

abbrev begins_plain : Text → Type 0
begins_plain word = (slice_index word 0 == 45) ≡ false

plain : (word : Text) → IsPlain word → begins_plain word
plain word p = ne_eqb _ _ p

value_walked : (c : List Rule) (names : Names) (h : Held) (id : Text) (position : ℕ) (word : Text) → begins_plain word →
    walked c names (waiting_for h id position) word ≡ with_value c h id position word
unfolding walked
value_walked c names h id position [] p = refl
value_walked c names h id position (x ∷ xs) p = rw (p, p) refl

value_clean : (s : Shape) (names : Names) (h : Held) (id : Text) (position : ℕ) (word : Text) → begins_plain word →
    turn_fault s names (waiting_for h id position) word ≡ []
value_clean s names h id position [] p = refl
value_clean s names h id position (x ∷ xs) p = rw (p, p) refl

word_walked : (c : List Rule) (h : Held) (position : ℕ) (word : Text) → begins_plain word →
    walked c [] (idle_at h position) word ≡ with_word c h position word
unfolding walked
word_walked c h position [] p = refl
word_walked c h position (x ∷ xs) p = rw (p, p) refl

word_clean : (s : Shape) (h : Held) (position : ℕ) (word : Text) → begins_plain word →
    turn_fault s [] (idle_at h position) word ≡ step_fault s position h value
word_clean s h position [] p = refl
word_clean s h position (x ∷ xs) p = rw (p, p) refl

-- ---- the words of a level

record Step (s : Shape) (w : Walk) (word : Text) (next : Walk) : Type 0 where
  walks : walked s.rules [] w word ≡ next
  clean : turn_fault s [] w word ≡ []

record Reads (s : Shape) (w : Walk) (words : List Text) (last : Walk) : Type 0 where
  walks : fold (walked s.rules []) w words ≡ last
  clean : walk_fault s [] w words ≡ []

value_step : (s : Shape) (h : Held) (id : Text) (position : ℕ) (word : Text) → IsPlain word →
    Step s (waiting_for h id position) word (with_value s.rules h id position word)
value_step s h id position word p = record {
  walks = value_walked s.rules [] h id position word (plain word p);
  clean = value_clean s [] h id position word (plain word p);
}

word_step : (s : Shape) (h : Held) (position : ℕ) (word : Text) → IsPlain word → step_fault s position h value ≡ [] →
    Step s (idle_at h position) word (with_word s.rules h position word)
word_step s h position word p none = record {
  walks = word_walked s.rules h position word (plain word p);
  clean = word_clean s h position word (plain word p) ∙ none;
}

no_more : (s : Shape) (w : Walk) → Reads s w [] w
unfolding walk_fault
no_more s w = record { walks = refl; clean = refl }

reads : (s : Shape) (w next last : Walk) (word : Text) (words : List Text) → Step s w word next → Reads s next words last →
    Reads s w (word ∷ words) last
unfolding walk_fault
reads s w next last word words step rest = record {
  walks = ap (λ v. fold (walked s.rules []) v words) step.walks ∙ rest.walks;
  clean = (λ i. or_else (step.clean i) (walk_fault s [] (step.walks i) words)) ∙ rest.clean;
}

-- ---- the name of a command

abbrev top : Shape
top = (built app.table).top

abbrev names : Names
names = names_of (built app.table)

-- the walk of the program's own words, which stops at the command
abbrev stopped_at : Text → List Text → Walk
stopped_at name rest = record { held = nothing_held; waiting = idle; position = 1; is_trailing = false; stopped = Some (name, rest) }

stops : (c : List Rule) (ns : Names) (name : Text) (before rest : List Text) →
    fold (walked c ns) (stopped_at name before) rest ≡ stopped_at name (before ++ rest)
unfolding walked
stops c ns name before [] = ap (stopped_at name) (sym (append-nil before))
stops c ns name before (word ∷ rest) =
    stops c ns name (before ++ word ∷ []) rest ∙ ap (stopped_at name) (append_assoc before (word ∷ []) rest)

-- the word is the name of the command whose words the leaf reads
record Enters (name : Text) (leaf : Shape) : Type 0 where
  walks : walked top.rules names (walk_from nothing_held) name ≡ stopped_at name []
  clean : turn_fault top names (walk_from nothing_held) name ≡ []
  found : find (λ s. answers_to name (label_of s)) (built app.table).subs ≡ Some leaf

top_walk : (name : Text) (leaf : Shape) (rest : List Text) → Enters name leaf →
    walk top.rules names nothing_held (name ∷ rest) ≡ stopped_at name rest
top_walk name leaf rest enters = ap (λ w. fold (walked top.rules names) w rest) enters.walks ∙ stops top.rules names name [] rest

top_clean : (name : Text) (leaf : Shape) (rest : List Text) → Enters name leaf →
    walk_fault top names (walk_from nothing_held) (name ∷ rest) ≡ []
unfolding walk_fault
top_clean name leaf rest enters =
    (λ i. or_else (enters.clean i) (walk_fault top names (enters.walks i) rest))
    ∙ stopped_fault top names (walk_from nothing_held) (name, []) rest

-- the faults of the program's own level behind its walk, by the command that was found
abbrev own_fault : Held → Bool → Kinds
own_fault h has_command =
    or_else (settle_fault top.rules top.args_override_self h)
    (or_else (defaults_fault (settled top.rules h).rows top.rules) (check_fault top (finished top.rules h) has_command))

own_clean : own_fault nothing_held true ≡ []
unfolding clap_on_literals the_table
own_clean = refl

abbrev later_fault : Walk → Kinds
later_fault w = or_else (entered_fault (built app.table) w.stopped) (own_fault w.held (is_some (entered (built app.table) w.stopped)))

by_parts : (words : List Text) →
    fault_of app.table words ≡ or_else (walk_fault top names (walk_from nothing_held) words)
    (later_fault (walk top.rules names nothing_held words))
unfolding the_table
by_parts words = refl

same_words : (words : List Text) → subcommand_of app.table words ≡ entered (built app.table)
    (walk top.rules names nothing_held words).stopped
unfolding the_table
same_words words = refl

later_is : (name : Text) (leaf : Shape) (rest : List Text) → Enters name leaf → level_fault leaf [] nothing_held rest false [] ≡ [] →
    later_fault (stopped_at name rest) ≡ []
later_is name leaf rest enters none = to_leaf (find (λ s. answers_to name (label_of s)) (built app.table).subs) enters.found
  where
    to_leaf : (found : Option Shape) → found ≡ Some leaf →
        or_else (option_map_or (λ s. level_fault s [] nothing_held rest false []) found [])
        (own_fault nothing_held (is_some (option_map (λ s. rows_at s rest) found))) ≡ []
    to_leaf found e =
        (λ i. or_else (option_map_or (λ s. level_fault s [] nothing_held rest false []) (e i) [])
        (own_fault nothing_held (is_some (option_map (λ s. rows_at s rest) (e i)))))
        ∙ (λ i. or_else (none i) (own_clean i))

-- the faults behind the walk of a command's words
abbrev end_fault : Shape → Walk → Kinds
end_fault s w =
    or_else (settle_fault s.rules s.args_override_self w.held)
    (or_else (defaults_fault (settled s.rules w.held).rows s.rules) (check_fault s (finished s.rules w.held) false))

-- what is asked for by the name of a command and words that it reads
asks : (name : Text) (leaf : Shape) (rest : List Text) (last : Walk) → Enters name leaf → Reads leaf (walk_from nothing_held) rest last →
    end_fault leaf last ≡ [] → asked (name ∷ rest) ≡ order_of leaf.name (finished leaf.rules last.held)
asks name leaf rest last enters reads none =
    let level : level_fault leaf [] nothing_held rest false [] ≡ [] =
    (λ i. or_else (reads.clean i) (end_fault leaf (reads.walks i))) ∙ none in
    let clean : fault_of app.table (name ∷ rest) ≡ [] =
    by_parts (name ∷ rest) ∙ (λ i. or_else (top_clean name leaf rest enters i) (later_fault (top_walk name leaf rest enters i)))
    ∙ later_is name leaf rest enters level in
    let found : subcommand_of app.table (name ∷ rest) ≡ Some (rows_at leaf rest) =
    same_words (name ∷ rest) ∙ ap (λ (w : Walk). entered (built app.table) w.stopped) (top_walk name leaf rest enters)
    ∙ ap (option_map (λ s. rows_at s rest)) enters.found in
    taken_is (name ∷ rest) clean ∙ ap order_in found ∙ ap (λ (w : Walk). order_of leaf.name (finished leaf.rules w.held)) reads.walks

-- what is read of the words behind a command's name
abbrev leaf_of : App → Shape
leaf_of a = built_leaf (inherited (with_leaf_noted (marked_built app.table.top)) a.top)

-- ---- where both values are there

where_both : {X Y Z : Type 0} (a b : Bool) (x : X) (y : Y) (f : X → Y → Z) →
    of_both f (if a then Some x else None) (if b then Some y else None) ≡ (if a && b then Some (f x y) else None)
where_both true true x y f = refl
where_both true false x y f = refl
where_both false b x y f = refl

-- ---- preview

preview_enters : Enters (codes "preview") (leaf_of app.preview)
unfolding clap_on_literals the_table
preview_enters = record { walks = refl; clean = refl; found = refl }

abbrev host_due : Held
host_due = record { rows = []; pending = Some (codes "host", []); skip = 0 }

abbrev host_held : Text → Held
host_held host = record { rows = []; pending = Some (codes "host", host ∷ []); skip = 0 }

abbrev source_due : Text → Held
source_due host = record {
  rows = (settled (leaf_of app.preview).rules (host_held host)).rows;
  pending = Some (codes "source", []);
  skip = 0;
}

abbrev source_held : Text → Text → Held
source_held host source =
    record { rows = (settled (leaf_of app.preview).rules (host_held host)).rows; pending = Some (codes "source", source ∷ []); skip = 0 }

host_flag : Step (leaf_of app.preview) (walk_from nothing_held) (codes "--host") (waiting_for host_due (codes "host") 1)
unfolding clap_on_literals the_table
host_flag = record { walks = refl; clean = refl }

host_word : (host : Text) → with_value (leaf_of app.preview).rules host_due (codes "host") 1 host ≡ idle_at (host_held host) 1
unfolding clap_on_literals the_table
host_word host = refl

source_flag : (host : Text) → Step (leaf_of app.preview) (idle_at (host_held host) 1) (codes "--source")
    (waiting_for (source_due host) (codes "source") 1)
unfolding clap_on_literals the_table
source_flag host = record { walks = refl; clean = refl }

source_word : (host source : Text) → with_value (leaf_of app.preview).rules (source_due host) (codes "source") 1 source ≡ idle_at
    (source_held host source) 1
unfolding clap_on_literals the_table
source_word host source = refl

-- a step, with its end written another way
ends_at : (s : Shape) (w : Walk) (word : Text) (next other : Walk) → next ≡ other → Step s w word next → Step s w word other
ends_at s w word next other same step = record { walks = step.walks ∙ same; clean = step.clean }

preview_reads : (host source : Text) → IsPlain host → IsPlain source →
    Reads (leaf_of app.preview) (walk_from nothing_held) (codes "--host" ∷ host ∷ codes "--source" ∷ source
    ∷ []) (idle_at (source_held host source) 1)
preview_reads host source h s =
    reads _ _ _ _ _ _ host_flag
    (reads _ _ _ _ _ _ (ends_at _ _ _ _ _ (host_word host) (value_step _ host_due (codes "host") 1 host h))
    (reads _ _ _ _ _ _ (source_flag host)
    (reads _ _ _ _ _ _ (ends_at _ _ _ _ _ (source_word host source) (value_step _ (source_due host) (codes "source") 1 source s))
    (no_more _ _))))

preview_ends : (host source : Text) → end_fault (leaf_of app.preview) (idle_at (source_held host source) 1) ≡ []
unfolding clap_on_literals the_table
preview_ends host source = refl

preview_order : (host source : Text) → order_of (leaf_of app.preview).name (finished (leaf_of app.preview).rules (source_held host source))
    ≡ of_both (λ h s. preview h s None None false) (name_of host) (name_of source)
unfolding clap_on_literals the_table order_of preview_of
preview_order host source = refl

pub preview_is_asked : PreviewIsAsked
preview_is_asked host source h s =
    asks (codes "preview") (leaf_of app.preview) _ (idle_at (source_held host source) 1) preview_enters (preview_reads host source h s)
    (preview_ends host source)
    ∙ preview_order host source ∙ where_both (is_name host) (is_name source) host source (λ h s. preview h s None None false)

-- all options, each with its value behind `=`
where_three : (a b c : Bool) (host source sourcetype index : Text) →
    option_and_then (λ h. option_and_then (λ s. option_map (λ t. preview h s t (Some index) true)
    (option_map (λ v. Some v) (if c then Some sourcetype else None))) (if b then Some source else None)) (if a then Some host else None)
    ≡ (if a && (b && c) then Some (preview host source (Some sourcetype) (Some index) true) else None)
where_three true true true host source sourcetype index = refl
where_three true true false host source sourcetype index = refl
where_three true false c host source sourcetype index = refl
where_three false b c host source sourcetype index = refl

whole_order : (host source sourcetype index : Text) →
    asked (codes "preview" ∷ (codes "--host=" ++ host) ∷ (codes "--source=" ++ source)
    ∷ (codes "--sourcetype=" ++ sourcetype) ∷ (codes "--index=" ++ index) ∷ codes "--store" ∷ [])
    ≡ option_and_then (λ h. option_and_then (λ s. option_map (λ t. preview h s t (Some index) true)
    (option_map (λ v. Some v) (name_of sourcetype))) (name_of source)) (name_of host)
unfolding clap_on_literals the_table asked order_of preview_of
whole_order host source sourcetype index = refl

pub whole_preview_is_asked : WholePreviewIsAsked
whole_preview_is_asked host source sourcetype index =
    whole_order host source sourcetype index ∙ where_three (is_name host) (is_name source) (is_name sourcetype) host source sourcetype index

-- ---- commands of one word

where_one : {X Z : Type 0} (a : Bool) (x : X) (f : X → Z) → option_map f (if a then Some x else None) ≡ (if a then Some (f x) else None)
where_one true x f = refl
where_one false x f = refl

one_word : (s : Shape) (word : Text) → IsPlain word → step_fault s 1 nothing_held value ≡ [] →
    Reads s (walk_from nothing_held) (word ∷ []) (with_word s.rules nothing_held 1 word)
one_word s word p free = reads _ _ _ _ _ _ (word_step s nothing_held 1 word p free) (no_more _ _)

btool_enters : Enters (codes "btool") (leaf_of app.btool)
unfolding clap_on_literals the_table
btool_enters = record { walks = refl; clean = refl; found = refl }

btool_free : step_fault (leaf_of app.btool) 1 nothing_held value ≡ []
unfolding clap_on_literals the_table
btool_free = refl

btool_ends : (file : Text) → end_fault (leaf_of app.btool) (with_word (leaf_of app.btool).rules nothing_held 1 file) ≡ []
unfolding clap_on_literals the_table
btool_ends file = refl

btool_order : (file : Text) →
    order_of (leaf_of app.btool).name (finished (leaf_of app.btool).rules (with_word (leaf_of app.btool).rules nothing_held 1 file).held)
    ≡ option_map btool (file_of file)
unfolding clap_on_literals the_table order_of
btool_order file = refl

pub btool_is_asked : BtoolIsAsked
btool_is_asked file p =
    asks (codes "btool") (leaf_of app.btool) _ _ btool_enters (one_word _ file p btool_free) (btool_ends file)
    ∙ btool_order file ∙ where_one (is_file file) file btool

roll_enters : Enters (codes "roll") (leaf_of app.roll)
unfolding clap_on_literals the_table
roll_enters = record { walks = refl; clean = refl; found = refl }

roll_free : step_fault (leaf_of app.roll) 1 nothing_held value ≡ []
unfolding clap_on_literals the_table
roll_free = refl

roll_ends : (index : Text) → end_fault (leaf_of app.roll) (with_word (leaf_of app.roll).rules nothing_held 1 index) ≡ []
unfolding clap_on_literals the_table
roll_ends index = refl

roll_order : (index : Text) →
    order_of (leaf_of app.roll).name (finished (leaf_of app.roll).rules
    (with_word (leaf_of app.roll).rules nothing_held 1 index).held) ≡ Some (roll index)
unfolding clap_on_literals the_table order_of
roll_order index = refl

pub roll_is_asked : RollIsAsked
roll_is_asked index p =
    asks (codes "roll") (leaf_of app.roll) _ _ roll_enters (one_word _ index p roll_free) (roll_ends index) ∙ roll_order index

-- ---- export

export_enters : Enters (codes "export") (leaf_of app.export)
unfolding clap_on_literals the_table
export_enters = record { walks = refl; clean = refl; found = refl }

export_free : step_fault (leaf_of app.export) 1 nothing_held value ≡ []
unfolding clap_on_literals the_table
export_free = refl

export_ends : (index : Text) → end_fault (leaf_of app.export) (with_word (leaf_of app.export).rules nothing_held 1 index) ≡ []
unfolding clap_on_literals the_table
export_ends index = refl

export_order : (index : Text) →
    order_of (leaf_of app.export).name (finished (leaf_of app.export).rules
    (with_word (leaf_of app.export).rules nothing_held 1 index).held)
    ≡ Some (export index (record { earliest = None; latest = None }))
unfolding clap_on_literals the_table order_of export_of range_of
export_order index = refl

pub export_is_asked : ExportIsAsked
export_is_asked index p =
    asks (codes "export") (leaf_of app.export) _ _ export_enters (one_word _ index p export_free) (export_ends index) ∙ export_order index

abbrev with_earliest : Text → Walk
with_earliest earliest = walked (leaf_of app.export).rules [] (walk_from nothing_held) (codes "--earliest=" ++ earliest)

abbrev with_latest : Text → Text → Walk
with_latest earliest latest = walked (leaf_of app.export).rules [] (with_earliest earliest) (codes "--latest=" ++ latest)

abbrev with_range : Text → Text → Text → Walk
with_range earliest latest index = with_word (leaf_of app.export).rules (with_latest earliest latest).held 1 index

earliest_step : (earliest : Text) → Step (leaf_of app.export) (walk_from nothing_held) (codes "--earliest="
    ++ earliest) (with_earliest earliest)
unfolding clap_on_literals the_table
earliest_step earliest = record { walks = refl; clean = refl }

latest_step : (earliest latest : Text) →
    Step (leaf_of app.export) (with_earliest earliest) (codes "--latest=" ++ latest) (idle_at (with_latest earliest latest).held 1)
unfolding clap_on_literals the_table
latest_step earliest latest = record { walks = refl; clean = refl }

range_free : (earliest latest : Text) → step_fault (leaf_of app.export) 1 (with_latest earliest latest).held value ≡ []
unfolding clap_on_literals the_table
range_free earliest latest = refl

range_ends : (earliest latest index : Text) → end_fault (leaf_of app.export) (with_range earliest latest index) ≡ []
unfolding clap_on_literals the_table
range_ends earliest latest index = refl

range_order : (earliest latest index : Text) →
    order_of (leaf_of app.export).name (finished (leaf_of app.export).rules (with_range earliest latest index).held)
    ≡ option_map (export index) (option_and_then (λ first. option_map (λ last. record { earliest = first; latest = last })
    (option_map (λ v. Some v) (seconds_of latest))) (option_map (λ v. Some v) (seconds_of earliest)))
unfolding clap_on_literals the_table order_of export_of range_of
range_order earliest latest index = refl

range_both : (index : Text) (first last : Option ℤ) →
    option_map (export index) (option_and_then (λ f. option_map (λ l. record { earliest = f; latest = l })
    (option_map (λ v. Some v) last)) (option_map (λ v. Some v) first))
    ≡ of_both (λ f l. export index (record { earliest = Some f; latest = Some l })) first last
range_both index None last = refl
range_both index (Some f) None = refl
range_both index (Some f) (Some l) = refl

pub range_is_asked : RangeIsAsked
range_is_asked earliest latest index p =
    asks (codes "export") (leaf_of app.export) _ _ export_enters
    (reads _ _ _ _ _ _ (earliest_step earliest) (reads _ _ _ _ _ _ (latest_step earliest latest)
    (reads _ _ _ _ _ _ (word_step _ (with_latest earliest latest).held 1 index p (range_free earliest latest)) (no_more _ _))))
    (range_ends earliest latest index)
    ∙ range_order earliest latest index ∙ range_both index (seconds_of earliest) (seconds_of latest)

-- ---- thaw and selftest

abbrev first_held : Shape → Text → Held
first_held s first = (with_word s.rules nothing_held 1 first).held

abbrev two_words : Shape → Text → Text → Walk
two_words s first second = with_word s.rules (first_held s first) 2 second

thaw_enters : Enters (codes "thaw") (leaf_of app.thaw)
unfolding clap_on_literals the_table
thaw_enters = record { walks = refl; clean = refl; found = refl }

thaw_free : step_fault (leaf_of app.thaw) 1 nothing_held value ≡ []
unfolding clap_on_literals the_table
thaw_free = refl

thaw_next : (index : Text) → with_word (leaf_of app.thaw).rules nothing_held 1 index ≡ idle_at (first_held (leaf_of app.thaw) index) 2
unfolding clap_on_literals the_table
thaw_next index = refl

thaw_free_too : (index : Text) → step_fault (leaf_of app.thaw) 2 (first_held (leaf_of app.thaw) index) value ≡ []
unfolding clap_on_literals the_table
thaw_free_too index = refl

thaw_ends : (index id : Text) → end_fault (leaf_of app.thaw) (two_words (leaf_of app.thaw) index id) ≡ []
unfolding clap_on_literals the_table
thaw_ends index id = refl

thaw_order : (index id : Text) →
    order_of (leaf_of app.thaw).name (finished (leaf_of app.thaw).rules (two_words (leaf_of app.thaw) index id).held)
    ≡ option_map (thaw index) (number_in 0 18446744073709551615 id)
unfolding clap_on_literals the_table order_of thaw_of
thaw_order index id = refl

reads_two : (s : Shape) (first second : Text) → IsPlain first → IsPlain second → step_fault s 1 nothing_held value ≡ [] →
    with_word s.rules nothing_held 1 first ≡ idle_at (first_held s first) 2 → step_fault s 2 (first_held s first) value ≡ [] →
    Reads s (walk_from nothing_held) (first ∷ second ∷ []) (two_words s first second)
reads_two s first second p q free next free_too =
    reads _ _ _ _ _ _ (ends_at _ _ _ _ _ next (word_step s nothing_held 1 first p free))
    (reads _ _ _ _ _ _ (word_step s (first_held s first) 2 second q free_too) (no_more _ _))

pub thaw_is_asked : ThawIsAsked
thaw_is_asked index id p q =
    asks (codes "thaw") (leaf_of app.thaw) _ _ thaw_enters
    (reads_two _ index id p q thaw_free (thaw_next index) (thaw_free_too index)) (thaw_ends index id)
    ∙ thaw_order index id

selftest_enters : Enters (codes "selftest") (leaf_of app.selftest)
unfolding clap_on_literals the_table
selftest_enters = record { walks = refl; clean = refl; found = refl }

selftest_free : step_fault (leaf_of app.selftest) 1 nothing_held value ≡ []
unfolding clap_on_literals the_table
selftest_free = refl

selftest_next : (seed : Text) → with_word (leaf_of app.selftest).rules nothing_held 1 seed ≡ idle_at
    (first_held (leaf_of app.selftest) seed) 2
unfolding clap_on_literals the_table
selftest_next seed = refl

selftest_free_too : (seed : Text) → step_fault (leaf_of app.selftest) 2 (first_held (leaf_of app.selftest) seed) value ≡ []
unfolding clap_on_literals the_table
selftest_free_too seed = refl

selftest_ends : (seed count : Text) → end_fault (leaf_of app.selftest) (two_words (leaf_of app.selftest) seed count) ≡ []
unfolding clap_on_literals the_table
selftest_ends seed count = refl

selftest_order : (seed count : Text) →
    order_of (leaf_of app.selftest).name (finished (leaf_of app.selftest).rules (two_words (leaf_of app.selftest) seed count).held)
    ≡ of_both selftest (number_in 0 18446744073709551615 seed) (number_in 1 1000000 count)
unfolding clap_on_literals the_table order_of selftest_of
selftest_order seed count = refl

pub selftest_is_asked : SelftestIsAsked
selftest_is_asked seed count p q =
    asks (codes "selftest") (leaf_of app.selftest) _ _ selftest_enters
    (reads_two _ seed count p q selftest_free (selftest_next seed) (selftest_free_too seed)) (selftest_ends seed count)
    ∙ selftest_order seed count

-- ---- serve

serve_enters : Enters (codes "serve") (leaf_of app.serve)
unfolding clap_on_literals the_table
serve_enters = record { walks = refl; clean = refl; found = refl }

abbrev port_due : Held
port_due = record { rows = []; pending = Some (codes "port", []); skip = 0 }

abbrev port_held : Text → Held
port_held port = record { rows = []; pending = Some (codes "port", port ∷ []); skip = 0 }

abbrev count_due : Text → Held
count_due port = record {
  rows = (settled (leaf_of app.serve).rules (port_held port)).rows;
  pending = Some (codes "requests", []);
  skip = 0;
}

abbrev count_held : Text → Text → Held
count_held port count =
    record { rows = (settled (leaf_of app.serve).rules (port_held port)).rows; pending = Some (codes "requests", count ∷ []); skip = 0 }

port_flag : Step (leaf_of app.serve) (walk_from nothing_held) (codes "--port") (waiting_for port_due (codes "port") 1)
unfolding clap_on_literals the_table
port_flag = record { walks = refl; clean = refl }

port_word : (port : Text) → with_value (leaf_of app.serve).rules port_due (codes "port") 1 port ≡ idle_at (port_held port) 1
unfolding clap_on_literals the_table
port_word port = refl

count_flag : (port : Text) → Step (leaf_of app.serve) (idle_at (port_held port) 1) (codes "--requests")
    (waiting_for (count_due port) (codes "requests") 1)
unfolding clap_on_literals the_table
count_flag port = record { walks = refl; clean = refl }

count_word : (port count : Text) → with_value (leaf_of app.serve).rules (count_due port) (codes "requests") 1 count ≡ idle_at
    (count_held port count) 1
unfolding clap_on_literals the_table
count_word port count = refl

serve_ends : (port count : Text) → end_fault (leaf_of app.serve) (idle_at (count_held port count) 1) ≡ []
unfolding clap_on_literals the_table
serve_ends port count = refl

serve_order : (port count : Text) → order_of (leaf_of app.serve).name (finished (leaf_of app.serve).rules (count_held port count))
    ≡ of_both serve (number_in 0 65535 port) (number_in 1 1000000 count)
unfolding clap_on_literals the_table order_of serve_of
serve_order port count = refl

pub serve_is_asked : ServeIsAsked
serve_is_asked port count p q =
    asks (codes "serve") (leaf_of app.serve) _ (idle_at (count_held port count) 1) serve_enters
    (reads _ _ _ _ _ _ port_flag
    (reads _ _ _ _ _ _ (ends_at _ _ _ _ _ (port_word port) (value_step _ port_due (codes "port") 1 port p))
    (reads _ _ _ _ _ _ (count_flag port)
    (reads _ _ _ _ _ _ (ends_at _ _ _ _ _ (count_word port count) (value_step _ (count_due port) (codes "requests") 1 count q))
    (no_more _ _)))))
    (serve_ends port count)
    ∙ serve_order port count

-- ---- words without values

pub monitor_is_asked : MonitorIsAsked
unfolding clap_on_literals the_table asked order_of
monitor_is_asked = record { bare = refl; close = refl }

pub single_words_are_asked : SingleWordsAreAsked
unfolding clap_on_literals the_table asked order_of
single_words_are_asked = record { feed_asked = refl; buckets_asked = refl; tick_asked = refl }

-- ---- words of which the first is no command

abbrev bare_name : Text → Text × List Text
bare_name name = (name, [])

-- none of these names is the word
none_answers : (word : Text) (ns : List Text) → list_any (λ name. bytes_eq name word) ns ≡ false →
    find (answers_to word) (map bare_name ns) ≡ None
none_answers word [] none = refl
none_answers word (n ∷ ns) none = go (bytes_eq n word) none (none_answers word ns)
  where
    go : (b : Bool) → (b || list_any (λ name. bytes_eq name word) ns) ≡ false →
        (list_any (λ name. bytes_eq name word) ns ≡ false → find (answers_to word) (map bare_name ns) ≡ None) →
        (if b || false then Some (bare_name n) else find (answers_to word) (map bare_name ns)) ≡ None
    go true e rest = absurd (true≢false e)
    go false e rest = rest e

no_command : (word : Text) → list_any (λ name. bytes_eq name word) command_names ≡ false → subcommand_met names idle word ≡ None
unfolding the_table
no_command word none = ap (option_map (λ s. s.0)) (none_answers word command_names none)

-- a word that is none stands for itself
stray_turn : (s : Shape) (ns : Names) (word : Text) → begins_plain word → subcommand_met ns idle word ≡ None →
    turn_fault s ns (walk_from nothing_held) word ≡ step_fault s 1 nothing_held value
stray_turn s ns word p none =
    (λ i. or_else (other_fault s (none i) word nothing_held)
    (step_fault s 1 (subcommand_or_other s.rules (none i) idle 1 word nothing_held).0
    (subcommand_or_other s.rules (none i) idle 1 word nothing_held).1))
    ∙ itself word p
  where
    itself : (w : Text) → begins_plain w →
        or_else (other_fault s None w nothing_held)
        (step_fault s 1 (subcommand_or_other s.rules None idle 1 w nothing_held).0
        (subcommand_or_other s.rules None idle 1 w nothing_held).1)
        ≡ step_fault s 1 nothing_held value
    itself [] q = refl
    itself (x ∷ xs) q = rw (q, q) refl

-- and is refused
stray_kinds : step_fault top 1 nothing_held value ≡ UnknownArgument ∷ InvalidSubcommand ∷ []
unfolding clap_on_literals the_table
stray_kinds = refl

stray_walk : (word : Text) (rest : List Text) → turn_fault top names (walk_from nothing_held) word ≡ UnknownArgument ∷ InvalidSubcommand
    ∷ [] →
    walk_fault top names (walk_from nothing_held) (word ∷ rest) ≡ UnknownArgument ∷ InvalidSubcommand ∷ []
unfolding walk_fault
stray_walk word rest turn = λ i. or_else (turn i) (walk_fault top names (walked top.rules names (walk_from nothing_held) word) rest)

other_is_usage : (word : Text) (rest : List Text) → IsPlain word → list_any (λ name. bytes_eq name word) command_names ≡ false →
    asked (word ∷ rest) ≡ None
other_is_usage word rest p none =
    let turn = stray_turn top names word (plain word p) (no_command word none) ∙ stray_kinds in
    let kinds : fault_of app.table (word ∷ rest) ≡ UnknownArgument ∷ InvalidSubcommand ∷ [] =
    by_parts (word ∷ rest)
    ∙ (λ i. or_else (stray_walk word rest turn i) (later_fault (walk top.rules names nothing_held (word ∷ rest)))) in
    refused_is (word ∷ rest) (λ clean. let bad : 2 ≡ 0 = ap length (sym kinds ∙ clean) in absurd (omega arith))

pub others_are_usage : OthersAreUsage
unfolding clap_on_literals the_table asked
others_are_usage = record { none = refl; other = other_is_usage }
