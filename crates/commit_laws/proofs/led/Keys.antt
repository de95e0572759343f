-- A decision, at one key of all its replicas: it is right, and the key is led to what it makes of the row.
use Rattle.std.proofs.Common.{◌≡◌, ◌⊎◌, ℕ, Bool, true, false, List, [], ◌∷◌, ◌++◌, refl, sym, ap, ◌∙◌, subst, inl, inr}
use Rattle.std.proofs.lemmas.Bool.{true≢false}
use Rattle.std.specs.List.{list_any}
use Rattle.std.specs.Prelude.{Option, None}
use Rattle.commit_laws.proofs.parts.Performs.{row_unwritten}
use Rattle.sig_core.specs.declared.entry.Entry.{Entry}
use Rattle.sig_core.specs.declared.member.Member.{Member}
use Rattle.sig_core.specs.declared.member.TxId.{TxId}
use Rattle.sig_core.specs.declared.op.Answer.{Answer}
use Rattle.sig_core.specs.declared.op.Op.{Op}
use Rattle.row_locks.specs.Holders.{holds}
use Rattle.world_core.specs.History.{is_done}
use Rattle.world_core.specs.Start.{Start}
use Rattle.world_core.specs.Steps.{HostStep}
use Rattle.key_laws.specs.Backup.{Backup, HasImage, IsLedUnlessSpoilt}
use Rattle.key_laws.specs.BackupEvents.{backup_of}
use Rattle.key_laws.specs.OneKey.{AreRight, IsRightAt, ops_on, row_after_all, row_at_end}
use Rattle.key_laws.specs.Primary.{ended_too}
use Rattle.key_laws.specs.Records.{found}
use Rattle.commit_laws.specs.Going.{is_written_by}
use Rattle.commit_laws.specs.Led.{IsTidy}
use Rattle.commit_laws.specs.Owed.{HasPrimary}
use Rattle.commit_laws.specs.Settled.{HasImageIf, IsSettledWith, row_behind}
use Rattle.commit_laws.specs.Traces.{IsReplicaOf, record_at, replica_at}
use Rattle.commit_laws.proofs.led.Decisions.{AreKeptWhoLetGo, decision_leads, more_tidy, row_is_value}
use Rattle.commit_laws.proofs.led.Decisions.{unkept_decision_leads}
use Rattle.commit_laws.proofs.led.Histories.{end_last, right_last}

module _ (start : Start) (final : TxId → Bool) (first : Option (List ℕ)) (key : List ℕ) (logs : ℕ → List HostStep) where
  abbrev pub backup : Member → Backup
  backup member = backup_of (replica_at start logs member key)

  abbrev pub value_of : List Entry → Option (List ℕ)
  value_of history = row_at_end key first history

  -- the history is right for the key; each replica is tidy, and led to what the history makes of the row
  pub record IsGood (decided : TxId → Bool) (history : List Entry) : Type 0 where
    pub right : IsRightAt key first history
    pub tidy : (member : Member) → IsReplicaOf start logs key member → IsTidy decided (backup member)
    pub led : (member : Member) → IsReplicaOf start logs key member
        → IsLedUnlessSpoilt decided final (value_of history) (backup member)

  module _ (decided : TxId → Bool) (history : List Entry) (good : IsGood decided history) (tx : TxId) where
    -- one that isn't final changes nothing
    pub unkept_good : final tx ≡ false → IsGood (ended_too decided tx) history
    unkept_good off = record {
      right = good.right;
      tidy = λ member is. more_tidy decided final (backup member) tx (good.tidy member is);
      led = λ member is.
          unkept_decision_leads decided final (backup member) tx (good.tidy member is) (value_of history)
          (good.led member is) off;
    }

    -- one that is
    module _ (kept : final tx ≡ true) (new : decided tx ≡ false) (ops : List (Op × Answer))
        (settled : IsSettledWith start logs key tx ops) (p : HasPrimary start logs key)
        (let_go : AreKeptWhoLetGo decided final (backup p.primary) tx (good.tidy p.primary p.replica)) where
      abbrev value : Option (List ℕ)
      value = value_of history

      abbrev own : List (Op × Answer)
      own = ops_on key ops

      abbrev after : Option (List ℕ)
      after = row_after_all value own

      -- it has no operation on the key, or the primary's row is the value
      on_row : (own ≡ []) ⊎ ((replica_at start logs p.primary key).cell.row ≡ value)
      on_row = by (settled.held p.primary p.is)
        where
          by : (own ≡ []) ⊎ (holds tx (replica_at start logs p.primary key).lock.holders ≡ true)
              → (own ≡ []) ⊎ ((replica_at start logs p.primary key).cell.row ≡ value)
          by (inl none) = inl none
          by (inr held) =
              inr (row_is_value decided final (backup p.primary) tx
              (good.tidy p.primary p.replica) new held let_go value
              (good.led p.primary p.replica))

      right_ops : AreRight value own
      right_ops = by on_row
        where
          by : (own ≡ []) ⊎ ((replica_at start logs p.primary key).cell.row ≡ value) → AreRight value own
          by (inl none) = subst (AreRight value) (sym none) tt
          by (inr same) = subst (λ row. AreRight row own) same (settled.right p.primary p.is)

      told : (member : Member) → IsReplicaOf start logs key member
          → HasImage tx after (backup member).pending ⊎ ((found tx (backup member).pending ≡ None) × (after ≡ value))
      told member is = by (is_written_by ops key) refl (settled.images p.primary p.is member is) on_row
        where
          by : (b : Bool) → is_written_by ops key ≡ b
              → HasImageIf b (row_behind start logs key p.primary ops) (record_at start logs member key tx)
              → (own ≡ []) ⊎ ((replica_at start logs p.primary key).cell.row ≡ value)
              → HasImage tx after (backup member).pending ⊎
              ((found tx (backup member).pending ≡ None) × (after ≡ value))
          by true e image (inl none) =
              absurd (true≢false (sym e ∙ ap (list_any (λ (op : Op × Answer). is_done op.1)) none))
          by true e image (inr same) =
              inl (record {
                is_record = image.0;
                there = image.1.0;
                waits = image.1.1.0;
                image_is = image.1.1.1 ∙ ap (λ row. row_after_all row own) same;
              })
          by false e image on = inr (image, row_unwritten value own right_ops e)

      -- the history with its entry behind is right, and the key is led to the new value
      pub kept_good : (z : Entry) → z.ops ≡ ops → IsGood (ended_too decided tx) (history ++ z ∷ [])
      kept_good z same =
          let to : value_of (history ++ z ∷ []) ≡ after =
          end_last key first history z ∙ ap (λ w. row_after_all value (ops_on key w)) same in
          record {
            right =
                right_last key first history z good.right
                (subst (λ w. AreRight value (ops_on key w)) (sym same) right_ops);
            tidy = λ member is. more_tidy decided final (backup member) tx (good.tidy member is);
            led = λ member is.
                subst (λ w. IsLedUnlessSpoilt (ended_too decided tx) final w (backup member)) (sym to)
                (decision_leads decided final (backup member) tx (good.tidy member is) value after
                (good.led member is) kept
                (told member is));
          }
