-- Where records of a transaction on a key have one image, and what leaves it so: an event that asks for nothing of the
-- transaction.
use Rattle.std.proofs.Common.{◌≡◌, ◌∙◌, ℕ, Bool, true, false, List, [], ◌∷◌, refl, sym, ap, subst}
use Rattle.std.proofs.lemmas.Bool.{true≢false}
use Rattle.std.specs.Prelude.{if◌then◌else◌, Option, None, Some}
use Rattle.std.specs.List.{list_any}
use Rattle.run_theory.specs.Lists.{IsIn}
use Rattle.sig_core.specs.declared.member.Member.{Member}
use Rattle.sig_core.specs.declared.member.TxId.{TxId}
use Rattle.sig_core.specs.declared.rows.PendingRecord.{PendingRecord}
use Rattle.sig_core.specs.declared.view.View.{View}
use Rattle.sig_core.specs.Same.{same_tx}
use Rattle.sig_core.proofs.TxLemmas.{same_tx-is}
use Rattle.frag_map.specs.Replicas.{is_member}
use Rattle.node_views.specs.declared.host_body.HostBody as node
use Rattle.key_laws.specs.Records.{as_committed, committed, found, if_committed, unless_committed}
use Rattle.key_laws.specs.Replica.{at_key}
use Rattle.world_core.specs.Start.{NobodyStarts, Start, made}
use Rattle.world_core.specs.Steps.{HostStep}
use Rattle.moment_laws.specs.Moments.{IsMoment, current, logs_of}
use Rattle.moment_laws.proofs.MomentHosts.{ldm_started}
use Rattle.moment_laws.proofs.MomentMembers.{current_made}
use Rattle.moment_laws.proofs.MomentViews.{moment_less}
use Rattle.outcome_laws.specs.Counts.{coordinator_member}
use Rattle.request_laws.specs.Blocks.{no_replica, rows_in}
use Rattle.request_laws.specs.Routed.{WasAskedIn}
use Rattle.request_laws.proofs.routes.ChainsStay.{any_in}
use Rattle.commit_laws.specs.Traces.{record_at}
use Rattle.commit_laws.proofs.fates.BegunNone.{first_none}
use Rattle.commit_laws.proofs.records.KeyGoes.{RecordGoes, is_aborted, is_committed, is_completed, record_stays}
use Rattle.commit_laws.proofs.records.Moves.{now_by}
use Rattle.commit_laws.proofs.records.Replicas.{full_in, self}
use Rattle.commit_laws.proofs.fates.RowsUnasked.{unasked_goes}

-- all records of the transaction on the key have the same image
abbrev pub Agree : Start → (ℕ → List HostStep) → TxId → List ℕ → Type 0
Agree start logs tx key =
    (one other : Member) → IsIn one (made start) → IsIn other (made start) → (r q : PendingRecord)
    → record_at start logs one key tx ≡ Some r → record_at start logs other key tx ≡ Some q → r.image ≡ q.image

-- there is a record with this image
pub record HasImage (image : Option (List ℕ)) (o : Option PendingRecord) : Type 0 where
  pub own : PendingRecord
  pub there : o ≡ Some own
  pub image_is : own.image ≡ image

-- a record that is made of another has the image of that
abbrev KeepsImage : (PendingRecord → Option PendingRecord) → Type 0
KeepsImage f = (r x : PendingRecord) → f r ≡ Some x → x.image ≡ r.image

committed_image : KeepsImage as_committed
committed_image r x is = let same : committed r ≡ x = cc in ap (λ (y : PendingRecord). y.image) (sym same)

if_image : KeepsImage if_committed
if_image r x is = by r.committed is
  where
    by : (b : Bool) → (if b then Some r else None) ≡ Some x → x.image ≡ r.image
    by true is = let same : r ≡ x = cc in ap (λ (y : PendingRecord). y.image) (sym same)
    by false is = absurd cc

unless_image : KeepsImage unless_committed
unless_image r x is = by r.committed is
  where
    by : (b : Bool) → (if b then None else Some r) ≡ Some x → x.image ≡ r.image
    by true is = absurd cc
    by false is = let same : r ≡ x = cc in ap (λ (y : PendingRecord). y.image) (sym same)

image_was : (f : PendingRecord → Option PendingRecord) → KeepsImage f → (was : Option PendingRecord)
    (x : PendingRecord) → now_by f was ≡ Some x → HasImage x.image was
image_was f keeps None x is = absurd cc
image_was f keeps (Some r) x is = record { own = r; there = refl; image_is = sym (keeps r x is) }

module _ (start : Start) (all : ℕ → List HostStep) (e : HostStep) (es : List HostStep)
    (moment : IsMoment start all (e ∷ es)) (tx : TxId) (key : List ℕ)
  where
    abbrev old : ℕ → List HostStep
    old = logs_of start es

    abbrev new : ℕ → List HostStep
    new = logs_of start (e ∷ es)

    pub image_goes : (member : Member) (there : IsIn member (made start))
        → RecordGoes start all e es moment member there key tx → (x : PendingRecord)
        → record_at start (logs_of start (e ∷ es)) member key tx ≡ Some x
        → HasImage x.image (record_at start (logs_of start es) member key tx)
    image_goes member there (record_stays is) x at = record { own = x; there = sym is ∙ at; image_is = refl }
    image_goes member there (is_committed takes epoch chain place about is) x at =
        image_was as_committed committed_image (record_at start old member key tx) x (sym is ∙ at)
    image_goes member there (is_completed takes chain place about is) x at =
        image_was unless_committed unless_image (record_at start old member key tx) x (sym is ∙ at)
    image_goes member there (is_aborted takes about is) x at =
        image_was if_committed if_image (record_at start old member key tx) x (sym is ∙ at)

    -- so images that agree go on to do so
    pub agree_on : ((member : Member) (there : IsIn member (made start))
        → RecordGoes start all e es moment member there key tx)
        → Agree start (logs_of start es) tx key → Agree start (logs_of start (e ∷ es)) tx key
    agree_on goes agree one other is_one is_other r q at_one at_other =
        let a = image_goes one is_one (goes one is_one) r at_one in
        let b = image_goes other is_other (goes other is_other) q at_other in
        sym a.image_is ∙ (agree one other is_one is_other a.own b.own a.there b.there ∙ b.image_is)

    -- nobody asked for the transaction in the current view
    module _ (never : WasAskedIn start (logs_of start es) (current start (logs_of start (e ∷ es))) tx → ⊥) where
      unasked : (view : View) (other : TxId) → view ≡ current start (logs_of start (e ∷ es))
          → WasAskedIn start (logs_of start es) view other → same_tx other tx ≡ false
      unasked view other same was = by (same_tx other tx) refl
        where
          by : (b : Bool) → same_tx other tx ≡ b → b ≡ false
          by false off = refl
          by true own =
              absurd (never (subst (WasAskedIn start old (current start new)) (same_tx-is other tx own)
              (subst (λ (v : View). WasAskedIn start old v other) same was)))

      pub never_goes : (member : Member) (there : IsIn member (made start))
          → RecordGoes start all e es moment member there key tx
      never_goes member there = (unasked_goes start all e es moment member there tx unasked key).record_goes

-- nobody has a record at first
pub first_record : (start : Start) (nobody : NobodyStarts start) (member : Member) → IsIn member (made start)
    → (key : List ℕ) (tx : TxId)
    → record_at start (logs_of start []) member key tx ≡ None
first_record start nobody member there key tx =
    ap (λ (s : node.HostBody). found tx (at_key key (rows_in (no_replica start member) s.parts).lqh).cell.pending)
    (ldm_started start nobody member there) ∙ first_none start member key tx

-- whoever has a record has a coordinator that was made
module _ (start : Start) (all : ℕ → List HostStep) (tx : TxId) (key : List ℕ) where
  not_asked : (e : HostStep) (es : List HostStep) → IsMoment start all (e ∷ es)
      → list_any (is_member (coordinator_member tx)) (made start) ≡ false
      → WasAskedIn start (logs_of start es) (current start (logs_of start (e ∷ es))) tx → ⊥
  not_asked e es moment off was =
      true≢false (sym (any_in (is_member (coordinator_member tx)) (coordinator_member tx) (made start)
      (current_made start all (e ∷ es) moment (coordinator_member tx) was.full) (self (coordinator_member tx))) ∙ off)

  pub record_made : (es : List HostStep) → IsMoment start all es → (member : Member) → IsIn member (made start)
      → (r : PendingRecord) → record_at start (logs_of start es) member key tx ≡ Some r
      → IsIn (coordinator_member tx) (made start)
  record_made [] moment member there r at =
      absurd (let nothing : Some r ≡ None = sym at ∙ first_record start moment.cluster.nobody member there key tx in cc)
  record_made (e ∷ es) moment member there r at =
      by (record_made es (moment_less start all e es moment) member there)
      (list_any (is_member (coordinator_member tx)) (made start)) refl
    where
      by : ((x : PendingRecord) → record_at start (logs_of start es) member key tx ≡ Some x
          → IsIn (coordinator_member tx) (made start)) → (b : Bool)
          → list_any (is_member (coordinator_member tx)) (made start) ≡ b → IsIn (coordinator_member tx) (made start)
      by was true is = full_in (made start) (coordinator_member tx) is
      by was false off =
          let one =
          image_goes start all e es moment tx key member there
          (never_goes start all e es moment tx key (not_asked e es moment off) member there) r at in
          was one.own one.there
