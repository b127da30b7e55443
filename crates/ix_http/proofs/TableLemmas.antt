-- The table finds a route for just the paths that are spelled as the route says.
use Rattle.std.proofs.Common.{◌≡◌, ◌≢◌, ◌⊎◌, inl, inr, ℕ, ◌+◌, ◌-◌, ◌<◌, ◌≤◌, List, [], ◌∷◌, ◌++◌, length, Option, Some, None, Result, Ok}
use Rattle.std.proofs.Common.{Err, Bool, true, false, cond, refl, sym, ap, ap₂, ◌∙◌, arith, codes, append_assoc, subst}
use Rattle.std.specs.Prelude.{option_map}
use Rattle.matchit.specs.Rows.{RowsOf, param_token}
use Rattle.matchit.specs.Route.{Scan, scan, parse_route}
use Rattle.matchit.specs.Router.{RouteOf, route_from}
use Rattle.matchit.specs.Seek.{first, seek, or_else, has_slash, slash, cuts, longest_suffix, with_suffix}
use Rattle.matchit.specs.Level.{IsText}
use Rattle.matchit.specs.declared.error.InsertError.{InsertError}
use Rattle.ix_http.specs.Table.{Table, with_scan, with_route, table, text_of, IsSegment, IsNameOf}
use Rattle.ix_http.specs.declared.router.Form.{Form}
use Rattle.ix_http.specs.declared.router.Form.TheVariants.{Channel, Blocks, End, Acks, Buckets, Events}
use Rattle.ix_http.proofs.SearchLemmas.{under, Behind, under_to, under_hit, fan, lit_miss, seek_none, EndsInSlash, TakesAll, TakesFront}
use Rattle.ix_http.proofs.SearchLemmas.{param_to, param_hit_all, param_hit_front, text_to, text_hit, or_to, nothing_to, is_text}
use Rattle.ix_http.proofs.SearchLemmas.{text_behind, text_front}

-- ---- the rows

unfoldable pub row_of : Result Scan InsertError → Form → RouteOf Form
row_of (Ok s) form = route_from s form
row_of (Err e) form = record { pattern = []; text = []; names = []; value = form }

-- the text of a form's route
abbrev pub route_text : Form → List ℕ
route_text Channel = codes "/channels/{name}"
route_text Blocks = codes "/channels/{name}/blocks"
route_text End = codes "/channels/{name}/end"
route_text Acks = codes "/acks"
route_text Buckets = codes "/buckets"
route_text Events = codes "/indexes/{name}/events"

-- and what the router keeps of it
unfoldable pub row : Form → RouteOf Form
row form = row_of (parse_route (route_text form)) form

abbrev Rows : Type 0
Rows = RowsOf (RouteOf Form)

abbrev leaf : RouteOf Form → Rows
leaf k = ([], k) ∷ []

abbrev under_channel : RouteOf Form → RouteOf Form → RouteOf Form → Rows
under_channel blocks end channel = (codes "/blocks", blocks) ∷ (codes "/end", end) ∷ ([], channel) ∷ []

abbrev under_index : RouteOf Form → Rows
under_index events = (codes "/events", events) ∷ []

-- the rows behind the slash that every path begins with, by their first bytes
abbrev acks_rows : Rows
acks_rows = under (codes "acks") (leaf (row Acks))

abbrev buckets_rows : Rows
buckets_rows = under (codes "buckets") (leaf (row Buckets))

abbrev channel_tails : Rows
channel_tails = under_channel (row Blocks) (row End) (row Channel)

abbrev channel_rows : Rows
channel_rows = under (codes "channels/") (under (param_token ∷ []) channel_tails)

abbrev index_tails : Rows
index_tails = under_index (row Events)

abbrev index_rows : Rows
index_rows = under (codes "indexes/") (under (param_token ∷ []) index_tails)

abbrev behind_slash : Rows
behind_slash = acks_rows ++ (buckets_rows ++ (channel_rows ++ index_rows))

is_grouped : table ≡ under (slash ∷ []) behind_slash
unfolding table with_route scan row_of row
is_grouped = refl

each_group : (p : List ℕ) → first behind_slash p
    ≡ or_else (first acks_rows p) (or_else (first buckets_rows p) (or_else (first channel_rows p) (first index_rows p)))
each_group p =
    fan 97 (codes "cks") (leaf (row Acks)) (buckets_rows ++ (channel_rows ++ index_rows)) p (omega arith) refl refl refl
    ∙ ap (or_else (first acks_rows p)) (fan 98 (codes "uckets") (leaf (row Buckets)) (channel_rows
    ++ index_rows) p (omega arith) refl refl refl
    ∙ ap (or_else (first buckets_rows p)) (fan 99 (codes "hannels/") (under (param_token ∷ []) channel_tails) index_rows p (omega arith)
    refl refl refl))

-- ---- how paths are spelled

pub record Spelled (path : List ℕ) (k : RouteOf Form) : Type 0 where
  pub form : Form
  pub name : List ℕ
  pub taken : IsNameOf form name
  pub is : path ≡ text_of form name
  pub kept : k ≡ row form

-- ---- what is found is spelled so

ends_channel : EndsInSlash channel_tails
ends_channel seg = by (cuts seg (slash ∷ [])) refl
  where
    by : (v : Bool) → cuts seg (slash ∷ []) ≡ v → longest_suffix seg channel_tails ≡ cond v (slash ∷ []) []
    by true e = rw e refl
    by false e = rw e refl

ends_index : EndsInSlash index_tails
ends_index seg = by (cuts seg (slash ∷ [])) refl
  where
    by : (v : Bool) → cuts seg (slash ∷ []) ≡ v → longest_suffix seg index_tails ≡ cond v (slash ∷ []) []
    by true e = rw e refl
    by false e = rw e refl

abbrev blocks_end : Rows
blocks_end = under (slash ∷ []) (under (codes "blocks") (leaf (row Blocks)) ++ under (codes "end") (leaf (row End)))

abbrev events_end : Rows
events_end = under (codes "/events") (leaf (row Events))

channel_to : (rest : List ℕ) (k : RouteOf Form) → IsText rest → first (under (param_token ∷ []) channel_tails) rest ≡ Some k →
    Spelled (codes "/channels/" ++ rest) k
channel_to rest k text e = by (param_to channel_tails rest k ends_channel text e)
  where
    ending : (t : TakesFront channel_tails rest k) (b : Behind (slash ∷ []) (under (codes "blocks") (leaf (row Blocks))
        ++ under (codes "end") (leaf (row End))) (slash ∷ t.more) k)
        → (first (under (codes "blocks") (leaf (row Blocks))) b.0 ≡ Some k) ⊎ (first (under (codes "end") (leaf (row End))) b.0 ≡ Some k) →
        Spelled (codes "/channels/" ++ rest) k
    ending t b (inl e) =
        let l = text_to (codes "blocks") (row Blocks) b.0 k (is_text (codes "blocks") refl) e in
        let tail = b.1 ∙ ap (λ p. slash ∷ p) l.0 in
        record {
          form = Blocks;
          name = t.name;
          taken = (t.some, t.free);
          is = ap (λ r. codes "/channels/" ++ r) (t.is ∙ ap (λ m. t.name ++ m) tail)
              ∙ sym (append_assoc (codes "/channels/") t.name (codes "/blocks"));
          kept = l.1;
        }
    ending t b (inr e) =
        let l = text_to (codes "end") (row End) b.0 k (is_text (codes "end") refl) e in
        let tail = b.1 ∙ ap (λ p. slash ∷ p) l.0 in
        record {
          form = End;
          name = t.name;
          taken = (t.some, t.free);
          is = ap (λ r. codes "/channels/" ++ r) (t.is ∙ ap (λ m. t.name ++ m) tail)
              ∙ sym (append_assoc (codes "/channels/") t.name (codes "/end"));
          kept = l.1;
        }

    by : TakesAll channel_tails rest k ⊎ TakesFront channel_tails rest k → Spelled (codes "/channels/" ++ rest) k
    by (inl t) = record { form = Channel; name = rest; taken = (t.some, t.free); is = refl; kept = let f = t.found in cc }
    by (inr t) =
        let b = under_to (slash ∷ []) (under (codes "blocks") (leaf (row Blocks)) ++ under (codes "end") (leaf (row End))) (slash
        ∷ t.more) k (is_text (slash ∷ []) refl) t.found in
        let apart = fan 98 (codes "locks") (leaf (row Blocks)) (under (codes "end") (leaf (row End))) b.0 (omega arith) refl refl refl in
        ending t b (or_to _ _ k (sym apart ∙ b.2))

index_to : (rest : List ℕ) (k : RouteOf Form) → IsText rest → first (under (param_token ∷ []) index_tails) rest ≡ Some k →
    Spelled (codes "/indexes/" ++ rest) k
index_to rest k text e = by (param_to index_tails rest k ends_index text e)
  where
    by : TakesAll index_tails rest k ⊎ TakesFront index_tails rest k → Spelled (codes "/indexes/" ++ rest) k
    by (inl t) = let f = t.found in cc
    by (inr t) =
        let l = text_to (codes "/events") (row Events) (slash ∷ t.more) k (is_text (codes "/events") refl) t.found in
        record {
          form = Events;
          name = t.name;
          taken = (t.some, t.free);
          is = ap (λ r. codes "/indexes/" ++ r) (t.is ∙ ap (λ m. t.name ++ m) l.0)
              ∙ sym (append_assoc (codes "/indexes/") t.name (codes "/events"));
          kept = l.1;
        }

spelled_as : (path other : List ℕ) (k : RouteOf Form) → path ≡ other → Spelled other k → Spelled path k
spelled_as path other k e s = record { form = s.form; name = s.name; taken = s.taken; is = e ∙ s.is; kept = s.kept }

-- What is found is spelled as the route says.
pub found_to : (path : List ℕ) (k : RouteOf Form) → IsText path → first table path ≡ Some k → Spelled path k
found_to path k text e =
    let b = under_to (slash ∷ []) behind_slash path k (is_text (slash ∷ []) refl) (ap (λ t. first t path) (sym is_grouped) ∙ e) in
    let rest = text_behind (slash ∷ []) b.0 (subst IsText b.1 text) in
    acks b.0 b.1 rest (or_to _ _ k (sym (each_group b.0) ∙ b.2))
  where
    index : (p : List ℕ) → path ≡ slash ∷ p → IsText p → first index_rows p ≡ Some k → Spelled path k
    index p is t f =
        let u = under_to (codes "indexes/") (under (param_token ∷ []) index_tails) p k (is_text (codes "indexes/") refl) f in
        spelled_as path _ k (is ∙ ap (λ q. slash ∷ q) u.1) (index_to u.0 k (text_behind (codes "indexes/") u.0 (subst IsText u.1 t)) u.2)

    channel : (p : List ℕ) → path ≡ slash ∷ p → IsText p → first channel_rows p ≡ Some k → Spelled path k
    channel p is t f =
        let u = under_to (codes "channels/") (under (param_token ∷ []) channel_tails) p k (is_text (codes "channels/") refl) f in
        spelled_as path _ k (is ∙ ap (λ q. slash ∷ q) u.1) (channel_to u.0 k (text_behind (codes "channels/") u.0 (subst IsText u.1 t)) u.2)

    channels : (p : List ℕ) → path ≡ slash ∷ p → IsText p → (first channel_rows p ≡ Some k) ⊎ (first index_rows p ≡ Some k) → Spelled path k
    channels p is t (inl f) = channel p is t f
    channels p is t (inr f) = index p is t f

    buckets : (p : List ℕ) → path ≡ slash ∷ p → IsText p → (first buckets_rows p ≡ Some k)
        ⊎ (or_else (first channel_rows p) (first index_rows p) ≡ Some k) → Spelled path k
    buckets p is t (inl f) =
        let l = text_to (codes "buckets") (row Buckets) p k (is_text (codes "buckets") refl) f in
        record { form = Buckets; name = []; taken = refl; is = is ∙ ap (λ q. slash ∷ q) l.0; kept = l.1 }
    buckets p is t (inr f) = channels p is t (or_to _ _ k f)

    acks : (p : List ℕ) → path ≡ slash ∷ p → IsText p
        → (first acks_rows p ≡ Some k) ⊎ (or_else (first buckets_rows p) (or_else (first channel_rows p) (first index_rows p)) ≡ Some k) →
        Spelled path k
    acks p is t (inl f) =
        let l = text_to (codes "acks") (row Acks) p k (is_text (codes "acks") refl) f in
        record { form = Acks; name = []; taken = refl; is = is ∙ ap (λ q. slash ∷ q) l.0; kept = l.1 }
    acks p is t (inr f) = buckets p is t (or_to _ _ k f)

-- ---- what is spelled so is found

-- a path with another first byte behind its slash is not in these rows
acks_miss : (b : ℕ) (p : List ℕ) → 97 ≢ b → first acks_rows (b ∷ p) ≡ None
acks_miss b p n = lit_miss 97 (codes "cks") (leaf (row Acks)) b p (omega arith) n

buckets_miss : (b : ℕ) (p : List ℕ) → 98 ≢ b → first buckets_rows (b ∷ p) ≡ None
buckets_miss b p n = lit_miss 98 (codes "uckets") (leaf (row Buckets)) b p (omega arith) n

channel_miss : (b : ℕ) (p : List ℕ) → 99 ≢ b → first channel_rows (b ∷ p) ≡ None
channel_miss b p n = lit_miss 99 (codes "hannels/") (under (param_token ∷ []) channel_tails) b p (omega arith) n

index_miss : (b : ℕ) (p : List ℕ) → 105 ≢ b → first index_rows (b ∷ p) ≡ None
index_miss b p n = lit_miss 105 (codes "ndexes/") (under (param_token ∷ []) index_tails) b p (omega arith) n

in_table : (p : List ℕ) → first table (slash ∷ p)
    ≡ or_else (first acks_rows p) (or_else (first buckets_rows p) (or_else (first channel_rows p) (first index_rows p)))
in_table p = ap (λ t. first t (slash ∷ p)) is_grouped ∙ under_hit (slash ∷ []) behind_slash p (is_text (slash ∷ []) refl) ∙ each_group p

in_channels : (rest : List ℕ) (k : RouteOf Form) → first (under (param_token ∷ []) channel_tails) rest ≡ Some k →
    first table (codes "/channels/" ++ rest) ≡ Some k
in_channels rest k e =
    let hit = under_hit (codes "channels/") (under (param_token ∷ []) channel_tails) rest (is_text (codes "channels/") refl) ∙ e in
    in_table (codes "channels/" ++ rest)
    ∙ simp (acks_miss 99 (codes "hannels/" ++ rest) (λ q. omega arith), buckets_miss 99 (codes "hannels/" ++ rest) (λ q. omega arith), hit)

in_indexes : (rest : List ℕ) (k : RouteOf Form) → first (under (param_token ∷ []) index_tails) rest ≡ Some k →
    first table (codes "/indexes/" ++ rest) ≡ Some k
in_indexes rest k e =
    let hit = under_hit (codes "indexes/") (under (param_token ∷ []) index_tails) rest (is_text (codes "indexes/") refl) ∙ e in
    in_table (codes "indexes/" ++ rest)
    ∙ simp (
      acks_miss 105 (codes "ndexes/" ++ rest) (λ q. omega arith),
      buckets_miss 105 (codes "ndexes/" ++ rest) (λ q. omega arith),
      channel_miss 105 (codes "ndexes/" ++ rest) (λ q. omega arith),
      hit,
    )

blocks_hit : first blocks_end (codes "/blocks") ≡ Some (row Blocks)
blocks_hit =
    under_hit (slash ∷ []) _ (codes "blocks") (is_text (slash ∷ []) refl)
    ∙ fan 98 (codes "locks") (leaf (row Blocks)) (under (codes "end") (leaf (row End))) (codes "blocks") (omega arith) refl refl refl
    ∙ ap (λ o. or_else o (first (under (codes "end") (leaf (row End))) (codes "blocks")))
    (text_hit (codes "blocks") (row Blocks) (is_text (codes "blocks") refl))

end_hit : first blocks_end (codes "/end") ≡ Some (row End)
end_hit =
    under_hit (slash ∷ []) _ (codes "end") (is_text (slash ∷ []) refl)
    ∙ fan 98 (codes "locks") (leaf (row Blocks)) (under (codes "end") (leaf (row End))) (codes "end") (omega arith) refl refl refl
    ∙ ap₂ or_else (lit_miss 98 (codes "locks") (leaf (row Blocks)) 101 (codes "nd") (omega arith) (λ q. omega arith))
    (text_hit (codes "end") (row End) (is_text (codes "end") refl))

-- What is spelled as a route says finds just that route.
pub found_from : (form : Form) (name : List ℕ) → IsText name → IsNameOf form name → first table (text_of form name) ≡ Some (row form)
found_from Channel name text t = in_channels name (row Channel) (param_hit_all channel_tails name ends_channel text t.0 t.1)
found_from Blocks name text t =
    ap (first table) (append_assoc (codes "/channels/") name (codes "/blocks"))
    ∙ in_channels (name ++ codes "/blocks") (row Blocks) (param_hit_front channel_tails name (codes "blocks") ends_channel text t.0 t.1
    ∙ blocks_hit)
found_from End name text t =
    ap (first table) (append_assoc (codes "/channels/") name (codes "/end"))
    ∙ in_channels (name ++ codes "/end") (row End) (param_hit_front channel_tails name (codes "end") ends_channel text t.0 t.1 ∙ end_hit)
found_from Acks name text t =
    in_table (codes "acks") ∙ simp (text_hit (codes "acks") (row Acks) (is_text (codes "acks") refl))
found_from Buckets name text t =
    in_table (codes "buckets") ∙ simp (
      acks_miss 98 (codes "uckets") (λ q. omega arith),
      text_hit (codes "buckets") (row Buckets) (is_text (codes "buckets") refl),
    )
found_from Events name text t =
    ap (first table) (append_assoc (codes "/indexes/") name (codes "/events"))
    ∙ in_indexes (name ++ codes "/events") (row Events) (param_hit_front index_tails name (codes "events") ends_index text t.0 t.1
    ∙ text_hit (codes "/events") (row Events) (is_text (codes "/events") refl))
