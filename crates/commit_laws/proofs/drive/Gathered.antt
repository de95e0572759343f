-- What a takeover gathers names each transaction once, and of each transaction each key once; and before it is ordered
-- it does nothing.
use Rattle.std.proofs.Common.{◌≡◌, ◌⊎◌, ◌==◌, ◌&&◌, ◌||◌, ◌∙◌, ℕ, Bool, true, false, None, Some, Option, List, [], ◌∷◌}
use Rattle.std.proofs.Common.{inl, inr, nat_lt, refl, sym, arith, subst}
use Rattle.std.proofs.lemmas.Bool.{ltb-true, true≢false}
use Rattle.std.specs.Prelude.{remove, slice_get}
use Rattle.run_theory.specs.Lists.{Each}
use Rattle.run_theory.proofs.Pasts.{each_after, each_append, each_before}
use Rattle.sig_core.specs.declared.member.TxId.{TxId}
use Rattle.sig_core.specs.declared.signal.Signal.{Signal}
use Rattle.sig_core.specs.Same.{same_tx}
use Rattle.sig_core.specs.Step.{Step}
use Rattle.sig_core.proofs.TxLemmas.{same_tx-is}
use Rattle.takeover_block.specs.declared.gathered.Gathered.{Gathered}
use Rattle.takeover_block.specs.Gather.{asking, member_count}
use Rattle.takeover_block.specs.Gathered.{is_before, noted, told_epoch, told_first, told_more}
use Rattle.takeover_block.specs.Laws.{AreInOrder}
use Rattle.takeover_block.specs.Rule.{entering, finishing, ruling, ruling_by}
use Rattle.takeover_block.specs.State.{TakeoverState, with_gathered}
use Rattle.takeover_block.specs.Takeover.{takeover_row}
use Rattle.takeover_block.proofs.EachTakeover.{takeover_each}
use Rattle.takeover_block.proofs.NotedLemmas.{IsMore, IsNew, noted_is}
use Rattle.takeover_block.proofs.OrderLemmas.{noted_order}
use Rattle.commit_laws.proofs.drive.Rulings.{has_tx}
use Rattle.commit_laws.proofs.drive.Stages.{KeysApart, with_key_apart}

-- what is gathered
pub record AreFit (gs : List Gathered) : Type 0 where
  pub keys : Each (λ (g : Gathered). KeysApart g.keys) gs
  pub order : AreInOrder gs

pub none_fit : AreFit []
none_fit = record { keys = tt; order = tt }

abbrev Apart : Gathered → Type 0
Apart g = KeysApart g.keys

noted_apart : (gs : List Gathered) (tx : TxId) (key : List ℕ) (epoch : Option ℕ) → Each Apart gs
    → Each Apart (noted gs tx key epoch)
noted_apart gs tx key epoch all = by (noted_is gs tx key epoch)
  where
    by : IsNew tx key epoch gs (noted gs tx key epoch) ⊎ IsMore tx key epoch gs (noted gs tx key epoch)
        → Each Apart (noted gs tx key epoch)
    by (inl new) =
        let parts = subst (Each Apart) new.is all in
        subst (Each Apart) (sym new.after)
        (each_append Apart new.front (told_first tx key epoch ∷ new.back) (each_before Apart new.front new.back parts)
        ((tt, tt), each_after Apart new.front new.back parts))
    by (inr more) =
        let parts = subst (Each Apart) more.is all in
        let behind = each_after Apart more.front (more.own ∷ more.back) parts in
        subst (Each Apart) (sym more.after)
        (each_append Apart more.front (told_more more.own key epoch ∷ more.back)
        (each_before Apart more.front (more.own ∷ more.back) parts)
        (with_key_apart more.own.keys key behind.0, behind.1))

without_first : (gs : List Gathered) → AreFit gs → AreFit (remove gs 0)
without_first [] fit = fit
without_first (g ∷ gs) fit = record { keys = fit.keys.1; order = fit.order.1 }

ruled : (s : TakeoverState) → AreFit s.gathered → AreFit (ruling s).state.gathered
unfolding ruling entering
ruled s fit = by (slice_get s.gathered 0)
  where
    by : (o : Option Gathered) → AreFit (ruling_by s o).state.gathered
    by None = fit
    by (Some g) = fit

finished : (s : TakeoverState) → AreFit s.gathered → AreFit (finishing s).state.gathered
unfolding finishing
finished s fit = ruled (with_gathered s (remove s.gathered 0)) (without_first s.gathered fit)

pub fit_stays : (s : TakeoverState) (x : Signal) → AreFit s.gathered → AreFit (takeover_row s x).state.gathered
unfolding entering
fit_stays s x fit =
    takeover_each s (λ (step : Step TakeoverState). AreFit step.state.gathered) x.body (record {
      stays = λ other. fit;
      untold = λ tx key state epoch is idle. fit;
      unended = λ is idle. fit;
      orders = λ is some. none_fit;
      orders_nobody = λ is none. ruled (asking s (member_count s.layout.view) 0) none_fit;
      asks = λ place n is due at. fit;
      tells = λ tx key state epoch n is at. record {
        keys = noted_apart s.gathered tx key (told_epoch state epoch) fit.keys;
        order = noted_order s.gathered tx key (told_epoch state epoch) fit.order;
      };
      ends = λ n is at more. fit;
      all_end = λ n is at last. ruled s fit;
      commits = λ tx key g e n is first at more. fit;
      all_commit = λ tx key g e n is first at last. fit;
      completes = λ tx key g e n is first at more. fit;
      all_complete = λ tx key g e n is first at last. finished s fit;
      aborts = λ tx key g n is first at more. fit;
      all_abort = λ tx key g n is first at last. finished s fit;
      goes_on = λ tx place g is due work first. fit;
    })

-- no transaction stands before itself
not_below : (n : ℕ) → nat_lt n n ≡ false
not_below n = by (nat_lt n n) refl
  where
    by : (b : Bool) → nat_lt n n ≡ b → b ≡ false
    by false e = refl
    by true e = absurd (let less = ltb-true n n e in omega (arith, less))

pub not_before_itself : (tx : TxId) → is_before tx tx ≡ true → ⊥
not_before_itself tx is =
    parts (nat_lt tx.tc tx.tc) (tx.tc == tx.tc) (nat_lt tx.start tx.start) (tx.start == tx.start) (nat_lt tx.seq tx.seq)
    (not_below tx.tc) (not_below tx.start) (not_below tx.seq) is
  where
    parts : (a b c d e : Bool) → a ≡ false → c ≡ false → e ≡ false → (a || (b && (c || (d && e)))) ≡ true → ⊥
    parts true b c d e x y z is = true≢false x
    parts false false c d e x y z is = true≢false (sym is)
    parts false true true d e x y z is = true≢false y
    parts false true false false e x y z is = true≢false (sym is)
    parts false true false true true x y z is = true≢false z
    parts false true false true false x y z is = true≢false (sym is)

-- so none stands behind the first that is the same
pub first_alone : (tx : TxId) (key : List ℕ) (gs : List Gathered) → AreFit gs → (g : Gathered) (rest : List Gathered)
    → gs ≡ g ∷ rest → same_tx g.tx tx ≡ true → has_tx tx key rest ≡ false
first_alone tx key gs fit g rest is own = none rest (subst AreInOrder is fit.order).0
  where
    none : (later : List Gathered) → Each (λ (h : Gathered). is_before g.tx h.tx ≡ true) later
        → has_tx tx key later ≡ false
    none [] all = refl
    none (h ∷ later) all = by (same_tx h.tx tx) refl (none later all.1)
      where
        by : (b : Bool) → same_tx h.tx tx ≡ b → has_tx tx key later ≡ false → (b || has_tx tx key later) ≡ false
        by false off rest = rest
        by true same rest =
            let alike : h.tx ≡ g.tx = same_tx-is h.tx tx same ∙ sym (same_tx-is g.tx tx own) in
            absurd (not_before_itself g.tx (subst (λ one. is_before g.tx one ≡ true) alike all.0))
