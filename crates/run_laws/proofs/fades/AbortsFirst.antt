-- What aborts a transaction begins with an abort, if it has something to wait for.
use Rattle.std.proofs.Common.{◌≡◌, ◌≢◌, ◌⊎◌, ℕ, ◌≤◌, List, [], ◌∷◌, ◌++◌, length, Bool, true, refl, ap, ◌∙◌, arith, inl}
use Rattle.std.proofs.Common.{inr}
use Rattle.std.specs.List.{flat_map, list_any}
use Rattle.std.specs.Prelude.{map, Option, None, Some}
use Rattle.std.proofs.lemmas.Bool.{or_cases}
use Rattle.sig_core.specs.declared.member.Member.{Member}
use Rattle.sig_core.specs.declared.member.TxId.{TxId}
use Rattle.sig_core.specs.declared.outcome.AbortCause.{AbortCause}
use Rattle.sig_core.specs.declared.outs.Outgoing.{Outgoing}
use Rattle.sig_core.specs.Op.{key_of}
use Rattle.row_records.proofs.KeyLemmas as keys
use Rattle.frag_map.specs.Layout.{Layout, chain_of}
use Rattle.tc_block.specs.Abort as abort
use Rattle.tc_block.specs.declared.phase.Asked.{Asked}
use Rattle.tc_block.specs.declared.phase.Phase.TheVariants.{Aborting}
use Rattle.tc_block.specs.declared.touched.Touched.{Touched}
use Rattle.tc_block.specs.Sends.{abort_of, key_sends}
use Rattle.tc_block.specs.Touched.{is_on}
use Rattle.host_laws.specs.Ways.{back, way_of}
use Rattle.run_laws.specs.Keyed.{HasTouched, HasTouchedAsked}

-- a list whose first signal takes the transaction back
pub record IsBackFirst (tx : TxId) (sends : List Outgoing) : Type 0 where
  pub first : Outgoing
  pub more : List Outgoing
  pub is : sends ≡ first ∷ more
  pub goes : way_of first.body ≡ back tx

pub aborts_first : (layout : Layout) (tx : TxId) (why : AbortCause) (verifying : Bool) (awaited : ℕ)
    (touched : List Touched) → abort.replica_count layout touched ≢ 0
    → IsBackFirst tx (flat_map (key_sends layout tx (Aborting why verifying awaited)) touched)
unfolding key_sends
aborts_first layout tx why verifying awaited [] some = absurd (some refl)
aborts_first layout tx why verifying awaited (u ∷ touched) some =
    by (chain_of layout u.key) refl (aborts_first layout tx why verifying awaited touched)
  where
    others : List Outgoing
    others = flat_map (key_sends layout tx (Aborting why verifying awaited)) touched

    by : (chain : List Member) → chain_of layout u.key ≡ chain
        → (abort.replica_count layout touched ≢ 0 → IsBackFirst tx others)
        → IsBackFirst tx (key_sends layout tx (Aborting why verifying awaited) u ++ others)
    by [] is rest =
        let more = rest (λ none. some (omega (arith, none, ap length is))) in
        record {
          first = more.first;
          more = more.more;
          is = ap (λ (c : List Member). map (abort_of tx u.key) c ++ others) is
              ∙ more.is;
          goes = more.goes;
        }
    by (m ∷ chain) is rest =
        record {
          first = abort_of tx u.key m;
          more = map (abort_of tx u.key) chain ++ others;
          is = ap (λ (c : List Member). map (abort_of tx u.key) c ++ others) is;
          goes = refl;
        }

-- the replicas of a key that was touched are among those
touched_count : (layout : Layout) (touched : List Touched) (key : List ℕ) → HasTouched touched key
    → length (chain_of layout key) ≤ abort.replica_count layout touched
touched_count layout [] key has = absurd cc
touched_count layout (u ∷ touched) key has =
    by (or_cases (is_on key u) (list_any (is_on key) touched) has) (touched_count layout touched key)
  where
    by : (is_on key u ≡ true) ⊎ HasTouched touched key
        → (HasTouched touched key → length (chain_of layout key) ≤ abort.replica_count layout touched)
        → length (chain_of layout key) ≤ abort.replica_count layout (u ∷ touched)
    by (inl own) rest = omega (arith, ap (λ k. length (chain_of layout k)) (keys.same u.key key own))
    by (inr more) rest = omega (arith, rest more)

pub asked_count_few : (layout : Layout) (touched : List Touched) (asked : Option Asked) → HasTouchedAsked touched asked
    → abort.asked_count layout asked ≤ abort.replica_count layout touched
asked_count_few layout touched None has = omega arith
asked_count_few layout touched (Some a) has = touched_count layout touched (key_of a.op) has
