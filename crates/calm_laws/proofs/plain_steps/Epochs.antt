-- The epochs of a node, while none is prepared and no view promised, are given as the plain ones are.
use Rattle.std.proofs.Common.{◌≡◌, ◌∙◌, ◌||◌, ℕ, zero, suc, ◌+◌, Bool, true, false, not, nat_lt, List, [], ◌∷◌, map}
use Rattle.std.proofs.Common.{length, arith, refl, sym, ap, subst, inl}
use Rattle.std.proofs.Math.Nat.{add-zero}
use Rattle.std.specs.Prelude.{Option, None, Some, position, remove}
use Rattle.std.proofs.lemmas.Bool.{false≢true}
use Rattle.std.proofs.lemmas.Bool.Decides.{nat_tests}
use Rattle.std.proofs.lemmas.List.{length-map, map-append}
use Rattle.dih_node.specs.declared.dih.Counted.{Counted}
use Rattle.dih_node.specs.Dih.{dih_row, dih_table}
use Rattle.dih_node.specs.State as views
use Rattle.dih_node.specs.State.{gives}
use Rattle.dih_node.specs.Verify.{end_row, ended, ended_by, given, is_of, reported, take_if, verify_if, verify_row}
use Rattle.frag_map.specs.Layout.{first_number}
use Rattle.node_core.specs.declared.host.Host.TheVariants as plain_host
use Rattle.node_core.specs.declared.tc_part.TcPart as plain
use Rattle.node_core.specs.Dih as plain_dih
use Rattle.node_core.specs.Row as plain_row
use Rattle.node_views.specs.Blocks.{in_tc}
use Rattle.node_views.specs.Parts.{in_dih}
use Rattle.node_views.specs.declared.parts.Parts.TheVariants.{Tc}
use Rattle.node_views.specs.declared.tc_part.TcPart.{TcPart}
use Rattle.run_theory.specs.Lists.{Each}
use Rattle.sig_core.specs.declared.member.TxId.{TxId}
use Rattle.sig_core.specs.declared.signal.Body.{Body}
use Rattle.sig_core.specs.declared.signal.Body.TheVariants.{Epoch}
use Rattle.sig_core.specs.declared.signal.Signal.{Signal}
use Rattle.sig_core.specs.declared.signal.epoch.EpochSignal.TheVariants.{DiVerifyReq, DiVerifyEnd}
use Rattle.sig_core.specs.Same.{same_tx}
use Rattle.sig_core.specs.Step.{Step, stay}
use Rattle.sig_core.proofs.Firsts.{place_by, position-cons}
use Rattle.tc_block.specs.declared.tc.TheConstants.{TRANSACTIONS}
use Rattle.world_core.specs.Start.{Start}
use Rattle.world_views.specs.Machine.{stops_by}
use Rattle.calm_laws.specs.Alike.{AreEpochsAlike, ArePartsAlike, tx_of}
use Rattle.calm_laws.specs.Calm.{is_for_epochs}
use Rattle.calm_laws.specs.Steps.{IsPlainSend}
use Rattle.calm_laws.proofs.plain_steps.PartsAlike.{PartsAlike}

-- a place in a list, and the list without that one, where each is made into another
position_mapped : {A B : Type 0} (p : B → Bool) (f : A → B) (xs : List A)
    → position p (map f xs) ≡ position (λ (x : A). p (f x)) xs
position_mapped p f [] = refl
position_mapped {A} p f (x ∷ xs) =
    position-cons p (f x) (map f xs)
    ∙ ap (place_by (p (f x))) (position_mapped p f xs)
    ∙ sym (position-cons (λ (x : A). p (f x)) x xs)

removed_mapped : {A B : Type 0} (f : A → B) (xs : List A) (at : ℕ) → map f (remove xs at) ≡ remove (map f xs) at
removed_mapped f [] zero = refl
removed_mapped f [] (suc at) = refl
removed_mapped f (x ∷ xs) zero = refl
removed_mapped f (x ∷ xs) (suc at) = λ i. f x ∷ removed_mapped f xs at i

not_below : (n : ℕ) → nat_lt n n ≡ false
not_below n = grind (arith, nat_tests)

-- a step of the epochs, and the plain one that does the same
record EpochsStep (h : ℕ) (one : Step views.DihState) (other : Step plain_dih.DihState) : Type 0 where
  marks : one.effects.marks ≡ other.effects.marks
  sends : one.effects.sends ≡ other.effects.sends
  plain : Each (IsPlainSend (suc h)) other.effects.sends
  goes_on : stops_by other.effects.marks ≡ false
  alike : AreEpochsAlike one.state other.state

module _ (h node epoch prepared closed durable : ℕ) where
  -- epochs that are alike, by what is counted
  abbrev one_at : List Counted → views.DihState
  one_at counted = record {
    node = node;
    number = first_number;
    fence = first_number;
    current = epoch;
    prepared = prepared;
    next = epoch;
    closed = closed;
    durable = durable;
    counted = counted;
    held = [];
    order = None;
  }

  abbrev other_at : List TxId → plain_dih.DihState
  other_at counted = record { node = node; epoch = epoch; counted = counted }

  are_alike : (counted : List Counted) (txs : List TxId) → map tx_of counted ≡ txs
      → AreEpochsAlike (one_at counted) (other_at txs)
  are_alike counted txs same = record {
    node = refl;
    number = refl;
    fence = refl;
    current = refl;
    next = refl;
    counted = same;
    held = refl;
    order = refl;
  }

  both_stay : (counted : List Counted) (txs : List TxId) → map tx_of counted ≡ txs
      → EpochsStep h (stay (one_at counted)) (stay (other_at txs))
  both_stay counted txs same = record {
    marks = refl;
    sends = refl;
    plain = tt;
    goes_on = refl;
    alike = are_alike counted txs same;
  }

  gives_one : (counted : List Counted) → gives (one_at counted) ≡ true
  unfolding gives
  gives_one counted = ap (λ b. not (b || nat_lt first_number first_number)) (not_below epoch)

  -- a transaction is given the current epoch
  both_give : (counted : List Counted) (tx : TxId)
      → EpochsStep h (given (one_at counted) tx) (plain_dih.decide_if (other_at (map tx_of counted)) tx true)
  unfolding given
  both_give counted tx = record {
    marks = refl;
    sends = refl;
    plain = (record { place = inl refl; work = refl }, tt);
    goes_on = refl;
    alike = are_alike _ _ (map-append tx_of counted (record { tx = tx; epoch = epoch } ∷ []));
  }

  both_take : (counted : List Counted) (tx : TxId) (b : Bool)
      → EpochsStep h (take_if (one_at counted) tx b) (plain_dih.decide_if (other_at (map tx_of counted)) tx b)
  both_take counted tx true =
      subst (λ b. EpochsStep h (verify_if (one_at counted) tx b)
      (plain_dih.decide_if (other_at (map tx_of counted)) tx true))
      (sym (gives_one counted)) (both_give counted tx)
  both_take counted tx false = both_stay counted (map tx_of counted) refl

  both_verify : (counted : List Counted) (tx : TxId)
      → EpochsStep h (verify_row (one_at counted) tx) (plain_dih.decide_row (other_at (map tx_of counted)) tx)
  unfolding verify_row plain_dih.decide_row
  both_verify counted tx =
      subst (λ n. EpochsStep h (take_if (one_at counted) tx (nat_lt n TRANSACTIONS))
      (plain_dih.decide_if (other_at (map tx_of counted)) tx (nat_lt (length (map tx_of counted)) TRANSACTIONS)))
      many (both_take counted tx (nat_lt (length (map tx_of counted)) TRANSACTIONS))
    where
      many : length (map tx_of counted) ≡ length counted + 0
      many = length-map counted tx_of ∙ sym (add-zero (length counted))

  -- a transaction ends
  both_end : (counted : List Counted) (tx : TxId)
      → EpochsStep h (end_row (one_at counted) tx) (stay (plain_dih.end_row (other_at (map tx_of counted)) tx))
  unfolding end_row ended reported plain_dih.end_row
  both_end counted tx =
      subst (λ at. EpochsStep h (end_row (one_at counted) tx)
      (stay (plain_dih.end_by (other_at (map tx_of counted)) at)))
      (sym (position_mapped (same_tx tx) tx_of counted)) (by (position (is_of tx) counted))
    where
      by : (at : Option ℕ)
          → EpochsStep h (reported (ended_by (one_at counted) tx at))
          (stay (plain_dih.end_by (other_at (map tx_of counted)) at))
      by None = both_stay counted (map tx_of counted) refl
      by (Some at) = both_stay _ _ (removed_mapped tx_of counted at)

  both_step : (counted : List Counted) (from number : ℕ) (body : Body) → is_for_epochs body ≡ true
      → EpochsStep h (dih_table (one_at counted) from number body)
      (plain_dih.dih_table (other_at (map tx_of counted)) body)
  both_step counted from number (Epoch (DiVerifyReq tx ops)) is = both_verify counted tx
  both_step counted from number (Epoch (DiVerifyEnd tx)) is = both_end counted tx
  both_step counted from number body is = absurd (false≢true is)

-- so it is with all that are alike
epochs_step : (h : ℕ) (one : views.DihState) (other : plain_dih.DihState) (x : Signal) → AreEpochsAlike one other
    → is_for_epochs x.body ≡ true → EpochsStep h (dih_row one x) (plain_dih.dih_row other x)
epochs_step h one other x alike is =
    subst (λ s. EpochsStep h (dih_row one x) (plain_dih.dih_row s x)) (sym other_is)
    (subst (λ s. EpochsStep h (dih_row s x) (plain_dih.dih_row there x)) (sym one_is)
    (both_step h other.node other.epoch one.prepared one.closed one.durable one.counted x.member.node x.view.number
    x.body is))
  where
    here : views.DihState
    here = one_at h other.node other.epoch one.prepared one.closed one.durable one.counted

    there : plain_dih.DihState
    there = other_at h other.node other.epoch one.prepared one.closed one.durable (map tx_of one.counted)

    one_is : one ≡ here
    one_is = λ i. record {
      node = alike.node i;
      number = alike.number i;
      fence = alike.fence i;
      current = alike.current i;
      prepared = one.prepared;
      next = alike.next i;
      closed = one.closed;
      durable = one.durable;
      counted = one.counted;
      held = alike.held i;
      order = alike.order i;
    }

    other_is : other ≡ there
    other_is = λ i. record { node = other.node; epoch = other.epoch; counted = sym alike.counted i }

pub epoch_step : (start : Start) (h : ℕ) (p : TcPart) (q : plain.TcPart) (x : Signal)
    → ArePartsAlike start [] (Tc p) (plain_host.Tc q) → is_for_epochs x.body ≡ true
    → PartsAlike start h (in_tc (in_dih p (dih_row p.dih x)))
    (plain_row.in_tc_part (plain_row.in_dih q (plain_dih.dih_row q.dih x)))
epoch_step start h p q x alike is = record {
  marks = step.marks;
  sends = step.sends;
  plain = step.plain;
  goes_on = step.goes_on;
  alike = (alike.0, step.alike);
}
  where
    step : EpochsStep h (dih_row p.dih x) (plain_dih.dih_row q.dih x)
    step = epochs_step h p.dih q.dih x alike.1 is
