-- What holds of each form of signal that a takeover sends holds of all that a step of it sends.
use Rattle.std.proofs.Common.{◌≡◌, ◌⊎◌, inl, inr, ◌∙◌, ℕ, false, List, [], ◌∷◌, ap, length, map, nat_lt, refl, subst}
use Rattle.std.proofs.Common.{sym}
use Rattle.std.specs.List.{flat_map}
use Rattle.std.specs.Prelude.{Option, None, Some, remove, slice_get}
use Rattle.run_theory.specs.Lists.{Each, IsIn}
use Rattle.run_theory.proofs.EachSent.{each_removed}
use Rattle.run_theory.proofs.Pasts.{each_append}
use Rattle.sig_core.specs.declared.mark.Mark.{Mark}
use Rattle.sig_core.specs.declared.member.Member.{Member}
use Rattle.sig_core.specs.declared.member.TxId.{TxId}
use Rattle.sig_core.specs.declared.outs.Outgoing.{Outgoing}
use Rattle.sig_core.specs.declared.signal.Body.{Body}
use Rattle.sig_core.specs.declared.signal.Body.TheVariants.{Chain, Client, Takeover}
use Rattle.sig_core.specs.declared.signal.Signal.{Signal}
use Rattle.sig_core.specs.declared.signal.chain.ChainSignal.TheVariants.{Aborted, Committed, Completed}
use Rattle.sig_core.specs.declared.signal.client.ClientSignal.TheVariants.{NfCompleteRep}
use Rattle.sig_core.specs.declared.signal.host.Work.TheVariants as work
use Rattle.sig_core.specs.declared.signal.takeover.TakeoverSignal.TheVariants.{LqhTransEnd, TakeoverEnd, TakeoverOrd}
use Rattle.sig_core.specs.Place.{checkpoints, client, takeover}
use Rattle.sig_core.specs.Portion.{go_on_at}
use Rattle.sig_core.specs.Step.{sends_only, to_place}
use Rattle.step_forms.specs.Does.{Does, IsAmong, IsWord}
use Rattle.step_forms.proofs.ListLemmas.{flat_in, mapped_in}
use Rattle.step_forms.proofs.PortionLemmas.{portion_each}
use Rattle.frag_map.specs.Layout.{chain_of}
use Rattle.takeover_block.specs.declared.gathered.Gathered.{Gathered}
use Rattle.takeover_block.specs.declared.stage.Stage.{Stage}
use Rattle.takeover_block.specs.declared.stage.Stage.TheVariants.{Resting, Gathering, Committing, Completing, Aborting}
use Rattle.takeover_block.specs.Rule.{after, entering, finishing, ruling, ruling_by, way_by, way_of}
use Rattle.takeover_block.specs.Sends.{abort_at, ask_effects, ask_of, asks_of, commit_along, complete_along}
use Rattle.takeover_block.specs.Sends.{front_sends, key_sends, key_sends_along, stage_effects, stage_sends}
use Rattle.takeover_block.specs.Sends.{told_aborted, told_committed}
use Rattle.takeover_block.specs.State.{TakeoverState, with_gathered}
use Rattle.takeover_block.specs.Takeover.{takeover_row}
use Rattle.takeover_block.specs.Words.{TakeoverKeepsToItsWords, is_takeover_mark, is_takeover_word}
use Rattle.takeover_block.proofs.EachTakeover.{takeover_each}
use Rattle.takeover_block.proofs.LawLemmas.{IsFirst, each_first, first_found}

-- a transaction is done with: its keys are completed, or aborted
pub data IsDone (s : TakeoverState) (body : Body) (tx : TxId) : Type 0 where
  is_completed : (key : List ℕ) (epoch n : ℕ) → body ≡ Chain (Completed tx key) → s.stage ≡ Completing epoch n
      → nat_lt 1 n ≡ false → IsDone s body tx
  is_aborted : (key : List ℕ) (n : ℕ) → body ≡ Chain (Aborted tx key) → s.stage ≡ Aborting n → nat_lt 1 n ≡ false
      → IsDone s body tx

-- What is gathered as the takeover rules on the first of it: all, once the last member has ended; nothing, where there
-- is no member; and where the first is done with, the rest.
pub data Rules (s : TakeoverState) (body : Body) : List Gathered → Type 0 where
  at_the_end : (n : ℕ) → body ≡ Takeover LqhTransEnd → s.stage ≡ Gathering n → nat_lt 1 n ≡ false
      → Rules s body s.gathered
  at_none : body ≡ Takeover TakeoverOrd → Rules s body []
  behind_one : (g : Gathered) → slice_get s.gathered 0 ≡ Some g → IsDone s body g.tx
      → Rules s body (remove s.gathered 0)

-- the takeover sends what a stage asks for of a transaction: it goes on with it, completes the transaction, or rules on
-- it
pub data Drives (s : TakeoverState) (body : Body) (g : Gathered) (stage : Stage) : Type 0 where
  goes_on : slice_get s.gathered 0 ≡ Some g → stage ≡ s.stage → Drives s body g stage
  completes_it : (key : List ℕ) (epoch n : ℕ) → body ≡ Chain (Committed g.tx key) → slice_get s.gathered 0 ≡ Some g
      → s.stage ≡ Committing epoch n → nat_lt 1 n ≡ false → stage ≡ Completing epoch (length g.keys)
      → Drives s body g stage
  rules_on : (gathered : List Gathered) → Rules s body gathered → slice_get gathered 0 ≡ Some g
      → stage ≡ way_of s.layout g → Drives s body g stage

-- it rules on the transaction
pub record IsRuledOn (s : TakeoverState) (body : Body) (g : Gathered) : Type 0 where
  pub gathered : List Gathered
  pub rules : Rules s body gathered
  pub first : slice_get gathered 0 ≡ Some g

-- what is so of all that is gathered is so of whom it rules on
pub ruled_is : (s : TakeoverState) (body : Body) (W : Gathered → Type 0) → Each W s.gathered → (g : Gathered)
    → IsRuledOn s body g → W g
ruled_is s body W all g ruled = each_first W ruled.gathered g ruled.first (by ruled.gathered ruled.rules)
  where
    by : (gathered : List Gathered) → Rules s body gathered → Each W gathered
    by gathered (at_the_end n about at last) = all
    by gathered (at_none about) = tt
    by gathered (behind_one one first done) = each_removed W s.gathered 0 all

-- it is at the transaction, and commits it in this epoch, or completes it
pub data IsAtCommit (s : TakeoverState) (g : Gathered) (epoch : ℕ) : Type 0 where
  commits_it : (n : ℕ) → slice_get s.gathered 0 ≡ Some g → s.stage ≡ Committing epoch n → IsAtCommit s g epoch
  completing_it : (n : ℕ) → slice_get s.gathered 0 ≡ Some g → s.stage ≡ Completing epoch n → IsAtCommit s g epoch

no_ruling : (s : TakeoverState) (g : Gathered) (epoch n : ℕ) → Completing epoch n ≡ way_of s.layout g → ⊥
unfolding way_of
no_ruling s g epoch n = by g.epoch
  where
    by : (o : Option ℕ) → Completing epoch n ≡ way_by s.layout g.keys o → ⊥
    by None is = cc
    by (Some other) is = cc

-- who is completed was being committed, or completed, before
pub drives_completion : (s : TakeoverState) (body : Body) (g : Gathered) (epoch n : ℕ)
    → Drives s body g (Completing epoch n) → IsAtCommit s g epoch
drives_completion s body g epoch n (goes_on first is) = completing_it n first (sym is)
drives_completion s body g epoch n (completes_it key other m about first at last is) =
    commits_it m first (at ∙ (let same : other ≡ epoch = cc in ap (λ k. Committing k m) same))
drives_completion s body g epoch n (rules_on gathered rules first is) = absurd (no_ruling s g epoch n is)

-- who is committed was so before, or is ruled on and has this epoch
pub drives_commit : (s : TakeoverState) (body : Body) (g : Gathered) (epoch n : ℕ)
    → Drives s body g (Committing epoch n) → IsAtCommit s g epoch ⊎ (IsRuledOn s body g × (g.epoch ≡ Some epoch))
unfolding way_of
drives_commit s body g epoch n (goes_on first is) = inl (commits_it n first (sym is))
drives_commit s body g epoch n (completes_it key other m about first at last is) = absurd cc
drives_commit s body g epoch n (rules_on gathered rules first is) =
    inr (record { gathered = gathered; rules = rules; first = first }, by g.epoch is)
  where
    by : (o : Option ℕ) → Committing epoch n ≡ way_by s.layout g.keys o → o ≡ Some epoch
    by None is = absurd cc
    by (Some other) is = cc

-- who is aborted was so before, or is ruled on and has no epoch
pub drives_abort : (s : TakeoverState) (body : Body) (g : Gathered) (n : ℕ) → Drives s body g (Aborting n)
    → ((slice_get s.gathered 0 ≡ Some g) × (s.stage ≡ Aborting n)) ⊎ (IsRuledOn s body g × (g.epoch ≡ None))
unfolding way_of
drives_abort s body g n (goes_on first is) = inl (first, sym is)
drives_abort s body g n (completes_it key other m about first at last is) = absurd cc
drives_abort s body g n (rules_on gathered rules first is) =
    inr (record { gathered = gathered; rules = rules; first = first }, by g.epoch is)
  where
    by : (o : Option ℕ) → Aborting n ≡ way_by s.layout g.keys o → o ≡ None
    by None is = refl
    by (Some other) is = absurd cc

-- each form of what it sends
pub record TakeoverSends (s : TakeoverState) (body : Body) (P : Outgoing → Type 0) : Type 0 where
  pub asks : (member : Member) → P (ask_of member)
  pub asks_on : (left : ℕ) → P (go_on_at (takeover s.node) work.Members left)
  pub commits : (g : Gathered) (epoch n : ℕ) → Drives s body g (Committing epoch n) → (key : List ℕ) → IsIn key g.keys
      → P (commit_along g.tx epoch key (chain_of s.layout key))
  pub confirms : (g : Gathered) (epoch n : ℕ) → Drives s body g (Completing epoch n) → P (told_committed g.tx epoch)
  pub completes : (g : Gathered) (epoch n : ℕ) → Drives s body g (Completing epoch n) → (key : List ℕ)
      → IsIn key g.keys → P (complete_along g.tx key (chain_of s.layout key))
  pub aborts : (g : Gathered) (n : ℕ) → Drives s body g (Aborting n) → (key : List ℕ) → IsIn key g.keys
      → (member : Member) → IsIn member (chain_of s.layout key) → P (abort_at g.tx key member)
  pub drives_on : (g : Gathered) (left : ℕ) → P (go_on_at (takeover s.node) (work.Transaction g.tx) left)
  pub gives_up : (g : Gathered) (key : List ℕ) (n : ℕ) → body ≡ Chain (Aborted g.tx key)
      → slice_get s.gathered 0 ≡ Some g → s.stage ≡ Aborting n → nat_lt 1 n ≡ false → P (told_aborted g.tx)
  pub ends : (gathered : List Gathered) → Rules s body gathered → slice_get gathered 0 ≡ None
      → P (to_place client (Client NfCompleteRep)) × P (to_place (checkpoints s.node) (Takeover TakeoverEnd))

module _ (s : TakeoverState) (body : Body) (P : Outgoing → Type 0) (M : Mark → Type 0) (sends : TakeoverSends s body P)
  where
    asks_each : (at : ℕ) → Each P (ask_effects s.node s.layout.view at).sends
    unfolding ask_effects asks_of
    asks_each at =
        portion_each P (takeover s.node) work.Members (asks_of s.layout.view) at sends.asks_on
        (each_append P (map ask_of s.layout.view.full) (map ask_of s.layout.view.starting)
        (mapped_in P ask_of s.layout.view.full (λ m there. sends.asks m))
        (mapped_in P ask_of s.layout.view.starting (λ m there. sends.asks m)))

    front_each : (g : Gathered) (stage : Stage) → Drives s body g stage → Each P (front_sends g.tx stage)
    unfolding front_sends
    front_each g Resting drives = tt
    front_each g (Gathering n) drives = tt
    front_each g (Committing epoch n) drives = tt
    front_each g (Completing epoch n) drives = (sends.confirms g epoch n drives, tt)
    front_each g (Aborting n) drives = tt

    key_each : (g : Gathered) (stage : Stage) → Drives s body g stage → (key : List ℕ) → IsIn key g.keys
        → Each P (key_sends_along g.tx stage key (chain_of s.layout key))
    key_each g Resting drives key there = tt
    key_each g (Gathering n) drives key there = tt
    key_each g (Committing epoch n) drives key there = (sends.commits g epoch n drives key there, tt)
    key_each g (Completing epoch n) drives key there = (sends.completes g epoch n drives key there, tt)
    key_each g (Aborting n) drives key there =
        mapped_in P (abort_at g.tx key) (chain_of s.layout key) (sends.aborts g n drives key there)

    stage_each : (g : Gathered) (stage : Stage) (at : ℕ) → Drives s body g stage
        → Each P (stage_effects s.node s.layout stage g at).sends
    unfolding stage_effects stage_sends key_sends
    stage_each g stage at drives =
        portion_each P (takeover s.node) (work.Transaction g.tx) (stage_sends s.layout stage g) at (sends.drives_on g)
        (each_append P (front_sends g.tx stage) (flat_map (key_sends s.layout g.tx stage) g.keys)
        (front_each g stage drives) (flat_in P (key_sends s.layout g.tx stage) g.keys (key_each g stage drives)))

    -- whatever is gathered then
    ruled_each : (t : TakeoverState) → t.node ≡ s.node → t.layout ≡ s.layout → Rules s body t.gathered
        → Does P M (ruling t)
    unfolding ruling entering stage_effects
    ruled_each t node_is layout_is rules = by (slice_get t.gathered 0) refl
      where
        by : (o : Option Gathered) → slice_get t.gathered 0 ≡ o → Does P M (ruling_by t o)
        by None none =
            let over = sends.ends t.gathered rules none in (
              (
                over.0,
                (
                  subst (λ node. P (to_place (checkpoints node) (Takeover TakeoverEnd))) (sym node_is) over.1,
                  tt,
                ),
              ),
              tt,
            )
        by (Some g) first = (
          subst (λ node. Each P (stage_effects node t.layout (way_of t.layout g) g 0).sends) (sym node_is)
              (subst (λ layout. Each P (stage_effects s.node layout (way_of layout g) g 0).sends) (sym layout_is)
              (stage_each g (way_of s.layout g) 0 (rules_on t.gathered rules first refl))),
          tt,
        )

    finished_each : (g : Gathered) → slice_get s.gathered 0 ≡ Some g → IsDone s body g.tx → Does P M (finishing s)
    unfolding finishing
    finished_each g first done = ruled_each (with_gathered s (remove s.gathered 0)) refl refl (behind_one g first done)

-- whatever it takes; and it marks nothing
pub takeover_does : (s : TakeoverState) (x : Signal) (P : Outgoing → Type 0) (M : Mark → Type 0)
    → TakeoverSends s x.body P → Does P M (takeover_row s x)
unfolding ask_effects stage_effects entering
takeover_does s x P M sends =
    takeover_each s (λ step. Does P M step) x.body (record {
      stays = λ off. (tt, tt);
      untold = λ tx key state epoch is off. (tt, tt);
      unended = λ is off. (tt, tt);
      orders = λ is some. (asks_each s x.body P M sends 0, tt);
      orders_nobody = λ is none. ruled_each s x.body P M sends _ refl refl (at_none is);
      asks = λ place n is due at. (asks_each s x.body P M sends place, tt);
      tells = λ tx key state epoch n is at. (tt, tt);
      ends = λ n is at more. (tt, tt);
      all_end = λ n is at last. ruled_each s x.body P M sends s refl refl (at_the_end n is at last);
      commits = λ tx key g e n is first at more. (tt, tt);
      all_commit = λ tx key g e n is first at last.
          (committed tx key g e n is (first_found s.gathered tx g first) at last, tt);
      completes = λ tx key g e n is first at more. (tt, tt);
      all_complete = λ tx key g e n is first at last.
          done tx g (first_found s.gathered tx g first) (is_completed key e n is at last);
      aborts = λ tx key g n is first at more. (tt, tt);
      all_abort = λ tx key g n is first at last. aborted tx key g n is (first_found s.gathered tx g first) at last;
      goes_on = λ tx place g is due at first.
          (stage_each s x.body P M sends g s.stage place (goes_on (first_found s.gathered tx g first).there refl), tt);
    })
  where
    committed : (tx : TxId) (key : List ℕ) (g : Gathered) (e n : ℕ) → x.body ≡ Chain (Committed tx key)
        → IsFirst s.gathered tx g → s.stage ≡ Committing e n → nat_lt 1 n ≡ false
        → Each P (stage_effects s.node s.layout (Completing e (length g.keys)) g 0).sends
    committed tx key g e n is found at last =
        stage_each s x.body P M sends g (Completing e (length g.keys)) 0
        (completes_it key e n (subst (λ one. x.body ≡ Chain (Committed one key)) (sym found.own) is) found.there at last
        refl)

    done : (tx : TxId) (g : Gathered) → IsFirst s.gathered tx g → IsDone s x.body tx → Does P M (finishing s)
    done tx g found is =
        finished_each s x.body P M sends g found.there (subst (IsDone s x.body) (sym found.own) is)

    aborted : (tx : TxId) (key : List ℕ) (g : Gathered) (n : ℕ) → x.body ≡ Chain (Aborted tx key)
        → IsFirst s.gathered tx g → s.stage ≡ Aborting n → nat_lt 1 n ≡ false
        → Does P M (after (sends_only (told_aborted tx ∷ [])) (finishing s))
    aborted tx key g n is found at last =
        let rest = done tx g found (is_aborted key n is at last) in (
          (
            subst (λ one. P (told_aborted one)) found.own
                (sends.gives_up g key n (subst (λ one. x.body ≡ Chain (Aborted one key)) (sym found.own) is)
                found.there at last),
            rest.0,
          ),
          rest.1,
        )

pub takeover_words : TakeoverKeepsToItsWords
takeover_words = record {
  takes = λ s x. takeover_does s x (IsWord is_takeover_word) (IsAmong is_takeover_mark) (record {
    asks = λ member. refl;
    asks_on = λ left. refl;
    commits = λ g epoch n drives key there. refl;
    confirms = λ g epoch n drives. refl;
    completes = λ g epoch n drives key there. refl;
    aborts = λ g n drives key there member among. refl;
    drives_on = λ g left. refl;
    gives_up = λ g key n is first at last. refl;
    ends = λ gathered rules none. (refl, refl);
  });
  installs = λ s view. (tt, tt);
}
