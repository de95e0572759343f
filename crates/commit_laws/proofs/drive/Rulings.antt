-- How far a takeover has come with the commits of a transaction on one key in a view; and that each of its steps leads
-- on.
use Rattle.std.proofs.Common.{◌≡◌, ◌≤◌, ◌⊎◌, ℕ, Bool, true, false, List, ◌∷◌, refl, sym, arith, subst, take}
use Rattle.std.proofs.lemmas.Bool.{true≢false}
use Rattle.std.specs.List.{list_any}
use Rattle.run_theory.specs.Lists.{Each}
use Rattle.sig_core.specs.declared.member.TxId.{TxId}
use Rattle.sig_core.specs.declared.outs.Outgoing.{Outgoing}
use Rattle.sig_core.specs.Same.{same_tx}
use Rattle.sig_core.proofs.TxLemmas.{same_tx-is}
use Rattle.frag_map.specs.Layout.{Layout}
use Rattle.takeover_block.specs.declared.gathered.Gathered.{Gathered}
use Rattle.takeover_block.specs.declared.stage.Stage.{Stage}
use Rattle.takeover_block.specs.declared.stage.Stage.TheVariants.{Aborting, Committing, Completing, Gathering, Resting}
use Rattle.takeover_block.specs.Rule.{is_at_work}
use Rattle.takeover_block.specs.Sends.{stage_sends}
use Rattle.takeover_block.specs.State.{TakeoverState}
use Rattle.outcome_laws.specs.Counts.{count_sent}
use Rattle.commit_laws.proofs.drive.Kinds.{Drive, committing, completing, goes}
use Rattle.commit_laws.proofs.drive.Lists.{mine, only, taken_less}
use Rattle.commit_laws.proofs.drive.Stages.{KeysApart, stage_once}

module _ (tx : TxId) (key : List ℕ) where
  -- how many commits of the key, and completions, are among these
  abbrev pub counted : Drive → List Outgoing → ℕ
  counted drive sends = count_sent (goes drive (mine tx (only key))) sends

  -- one was sent for each of the first ones of the list, and what is left begins behind these
  pub record IsSentTo (left count : ℕ) (drive : Drive) (list : List Outgoing) : Type 0 where
    pub place : ℕ
    pub left_is : (left ≡ 0) ⊎ (left ≡ place)
    pub few : count ≤ counted drive (take place list)

  -- of the transaction that it is at
  abbrev pub IsAt : Layout → Stage → ℕ → Gathered → (Drive → ℕ) → Type 0
  IsAt layout (Committing e n) left g sent =
      IsSentTo left (sent committing) committing (stage_sends layout (Committing e n) g) × (sent completing ≡ 0)
  IsAt layout (Completing e n) left g sent =
      IsSentTo left (sent completing) completing (stage_sends layout (Completing e n) g) × (sent committing ≤ 1)
  IsAt layout (Aborting n) left g sent = (sent committing ≡ 0) × (sent completing ≡ 0)
  IsAt layout stage left g sent = Unit {0}

  abbrev pub has_tx : List Gathered → Bool
  has_tx gs = list_any (λ (g : Gathered). same_tx g.tx tx) gs

  pub record Works (layout : Layout) (stage : Stage) (left : ℕ) (g : Gathered) (rest : List Gathered) (sent : Drive → ℕ)
      : Type 0
    where
      pub own : same_tx g.tx tx ≡ true → IsAt layout stage left g sent
      pub later : same_tx g.tx tx ≡ false → has_tx rest ≡ true → (drive : Drive) → sent drive ≡ 0
      pub gone : same_tx g.tx tx ≡ false → (drive : Drive) → sent drive ≤ 1

  pub data Rules (s : TakeoverState) (sent : Drive → ℕ) : Type 0 where
    -- it wasn't ordered, or gathers
    awaits : is_at_work s.stage ≡ false → ((drive : Drive) → sent drive ≡ 0) → Rules s sent
    works : is_at_work s.stage ≡ true → (g : Gathered) (rest : List Gathered) → s.gathered ≡ g ∷ rest
        → Works s.layout s.stage s.left g rest sent → Rules s sent
    -- it is over
    rests : s.stage ≡ Resting → ((drive : Drive) → sent drive ≤ 1) → Rules s sent

  -- so it has sent each once at most
  module _ (layout : Layout) (g : Gathered) (own : same_tx g.tx tx ≡ true) (apart : KeysApart g.keys) where
    list_once : (drive : Drive) (stage : Stage) → counted drive (stage_sends layout stage g) ≤ 1
    list_once drive stage =
        subst (λ one. count_sent (goes drive (mine one (only key))) (stage_sends layout stage g) ≤ 1)
        (same_tx-is g.tx tx own) (stage_once layout g drive key stage apart)

    at_once : (stage : Stage) → is_at_work stage ≡ true → (left : ℕ) (sent : Drive → ℕ) → IsAt layout stage left g sent
        → (drive : Drive) → sent drive ≤ 1
    at_once (Committing e n) work left sent is committing =
        omega (
          arith,
          is.0.few,
          taken_less (λ (o : Outgoing). goes committing (mine tx (only key)) o.body) is.0.place
              (stage_sends layout (Committing e n) g),
          list_once committing (Committing e n),
        )
    at_once (Committing e n) work left sent is completing = omega (arith, is.1)
    at_once (Completing e n) work left sent is committing = is.1
    at_once (Completing e n) work left sent is completing =
        omega (
          arith,
          is.0.few,
          taken_less (λ (o : Outgoing). goes completing (mine tx (only key)) o.body) is.0.place
              (stage_sends layout (Completing e n) g),
          list_once completing (Completing e n),
        )
    at_once (Aborting n) work left sent is committing = omega (arith, is.0)
    at_once (Aborting n) work left sent is completing = omega (arith, is.1)
    at_once Resting work left sent is drive = absurd (true≢false (sym work))
    at_once (Gathering n) work left sent is drive = absurd (true≢false (sym work))

  pub works_once : (layout : Layout) (stage : Stage) (left : ℕ) (g : Gathered) (rest : List Gathered) (sent : Drive → ℕ)
      → is_at_work stage ≡ true → KeysApart g.keys → Works layout stage left g rest sent → (drive : Drive)
      → sent drive ≤ 1
  works_once layout stage left g rest sent work apart is drive = by (same_tx g.tx tx) refl
    where
      by : (b : Bool) → same_tx g.tx tx ≡ b → sent drive ≤ 1
      by true own = at_once layout g own apart stage work left sent (is.own own) drive
      by false off = is.gone off drive

  pub rules_once : (s : TakeoverState) (sent : Drive → ℕ) → Each (λ (g : Gathered). KeysApart g.keys) s.gathered
      → Rules s sent → (drive : Drive) → sent drive ≤ 1
  rules_once s sent apart (awaits off none) drive = omega (arith, none drive)
  rules_once s sent apart (works work g rest is own) drive =
      works_once s.layout s.stage s.left g rest sent work
      (subst (Each (λ (g : Gathered). KeysApart g.keys)) is apart).0 own drive
  rules_once s sent apart (rests is few) drive = few drive
