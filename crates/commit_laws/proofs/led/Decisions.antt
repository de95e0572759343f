-- A decision, at one replica of a key that is tidy and led to a value.
use Rattle.std.proofs.Common.{◌≡◌, ◌⊎◌, ℕ, Bool, true, false, not, ◌&&◌, ◌||◌, List, [], ◌∷◌, refl, sym, ap, ◌∙◌, inl}
use Rattle.std.proofs.Common.{inr}
use Rattle.std.specs.Prelude.{Option, None}
use Rattle.std.specs.List.{list_any}
use Rattle.std.proofs.lemmas.Bool.{and_left, and_right, or_from, or_right, true≢false}
use Rattle.run_theory.specs.Lists.{Each}
use Rattle.run_theory.proofs.Pasts.{each_map}
use Rattle.row_locks.specs.declared.mode.Mode.TheVariants.{Exclusive}
use Rattle.row_locks.specs.Holders.{holds, holds_enough}
use Rattle.sig_core.proofs.Keys.{same_tx-self}
use Rattle.sig_core.proofs.TxLemmas.{same_tx-is, same_tx-swap}
use Rattle.sig_core.specs.declared.member.TxId.{TxId}
use Rattle.sig_core.specs.declared.rows.PendingRecord.{PendingRecord}
use Rattle.sig_core.specs.Same.{same_tx}
use Rattle.key_laws.specs.Backup.{Backup, HasImage, IsLedUnlessSpoilt, is_spoilt, kept_of}
use Rattle.key_laws.specs.Primary.{IsOwned, ended_too}
use Rattle.key_laws.specs.Records.{found, is_kept}
use Rattle.key_laws.proofs.BackupMoves.{kept_row-same}
use Rattle.key_laws.proofs.Holding.{only_holder}
use Rattle.key_laws.proofs.RecordLemmas.{kept_row-none, kept_row-one, kept_row-others}
use Rattle.commit_laws.specs.Led.{IsTidy}
use Rattle.commit_laws.proofs.led.Moves.{only_prepared}

module _ (decided final : TxId → Bool) (b : Backup) (tx : TxId) (tidy : IsTidy decided b) where
  -- one more is decided
  pub more_tidy : IsTidy (ended_too decided tx) b
  more_tidy = record {
    once = tidy.once;
    owned = tidy.owned;
    agreed = tidy.agreed;
    done = each_map (λ (r : PendingRecord). r.committed ≡ true → decided r.tx ≡ true)
        (λ (r : PendingRecord). r.committed ≡ true → ended_too decided tx r.tx ≡ true) b.pending
        (λ r over is. or_right (same_tx tx r.tx) (decided r.tx) (over is)) tidy.done;
  }

  -- One that is kept in the end: where it has an image prepared, that is the new value; else the value stays.
  pub decision_leads : (before after : Option (List ℕ)) → IsLedUnlessSpoilt decided final before b → final tx ≡ true
      → HasImage tx after b.pending ⊎ ((found tx b.pending ≡ None) × (after ≡ before))
      → IsLedUnlessSpoilt (ended_too decided tx) final after b
  decision_leads before after led kept told = by told
    where
      own : kept_of (ended_too decided tx) final tx ≡ true
      own = λ i. (same_tx-self tx i || decided tx) && kept i

      others : (v : TxId) → same_tx v tx ≡ false → kept_of (ended_too decided tx) final v ≡ kept_of decided final v
      others v apart = ap (λ c. (c || decided v) && final v) (same_tx-swap tx v ∙ apart)

      by : HasImage tx after b.pending ⊎ ((found tx b.pending ≡ None) × (after ≡ before))
          → IsLedUnlessSpoilt (ended_too decided tx) final after b
      by (inl has) clean =
          kept_row-one (kept_of (ended_too decided tx) final) b.row tx b.pending has.is_record
          (only_prepared decided b tidy tx has.is_record has.there has.waits) has.there has.waits own
          ∙ has.image_is
      by (inr none) clean =
          kept_row-others (kept_of decided final)
          (kept_of (ended_too decided tx) final) b.row tx b.pending others none.0
          ∙ led clean ∙ sym none.1

  -- one that isn't changes nothing
  pub unkept_decision_leads : (value : Option (List ℕ)) → IsLedUnlessSpoilt decided final value b → final tx ≡ false
      → IsLedUnlessSpoilt (ended_too decided tx) final value b
  unkept_decision_leads value led off clean =
      kept_row-same (kept_of decided final) (kept_of (ended_too decided tx) final) b.row b.pending same ∙ led clean
    where
      by : (v : TxId) (c : Bool) → same_tx tx v ≡ c → ((c || decided v) && final v) ≡ (decided v && final v)
      by v true e =
          let none : final v ≡ false = ap final (sym (same_tx-is tx v e)) ∙ off in
          none ∙ sym (and_right (decided v) (final v) none)
      by v false e = refl

      same : (v : TxId) → kept_of (ended_too decided tx) final v ≡ kept_of decided final v
      same v = by v (same_tx tx v) refl

  -- who was committed here and has let go of the lock is kept in the end
  abbrev pub AreKeptWhoLetGo : Type 0
  AreKeptWhoLetGo =
      Each (λ (r : PendingRecord). r.committed ≡ true → holds_enough r.tx Exclusive b.holders ≡ false
      → final r.tx ≡ true) b.pending

  -- While one that isn't decided holds the lock the row is the value that it is led to.
  module _ (new : decided tx ≡ false) (held : holds tx b.holders ≡ true) (let_go : AreKeptWhoLetGo) where
    undecided : (r : PendingRecord) → holds_enough r.tx Exclusive b.holders ≡ true → decided r.tx ≡ false
    undecided r exclusive = ap decided (sym (only_holder b.holders tidy.agreed r.tx tx exclusive held)) ∙ new

    abbrev IsClear : PendingRecord → Type 0
    IsClear r = (is_spoilt final r ≡ false) × (is_kept (kept_of decided final) r ≡ false)

    clear : (r : PendingRecord) → IsOwned b.holders r → (r.committed ≡ true → decided r.tx ≡ true)
        → (r.committed ≡ true → holds_enough r.tx Exclusive b.holders ≡ false → final r.tx ≡ true) → IsClear r
    clear r owned over kept = by r.committed refl (holds_enough r.tx Exclusive b.holders) refl owned
      where
        by : (c : Bool) → r.committed ≡ c → (d : Bool) → holds_enough r.tx Exclusive b.holders ≡ d → IsOwned b.holders r
            → IsClear r
        by true e true f own = absurd (true≢false (sym (over e) ∙ undecided r f))
        by true e false f own = (
          and_right r.committed (not (final r.tx)) (ap not (kept e f)),
          and_left (not r.committed) (kept_of decided final r.tx) (ap not e),
        )
        by false e true f own = (
          and_left r.committed (not (final r.tx)) e,
          and_right (not r.committed) (kept_of decided final r.tx)
              (and_left (decided r.tx) (final r.tx) (undecided r f)),
        )
        by false e false f (inl done) = absurd (true≢false (sym done ∙ e))
        by false e false f (inr exclusive) = absurd (true≢false (sym exclusive ∙ f))

    all_clear : (xs : List PendingRecord) → Each (IsOwned b.holders) xs
        → Each (λ (r : PendingRecord). r.committed ≡ true → decided r.tx ≡ true) xs
        → Each (λ (r : PendingRecord). r.committed ≡ true → holds_enough r.tx Exclusive b.holders ≡ false
        → final r.tx ≡ true) xs
        → Each IsClear xs
    all_clear [] owned over kept = tt
    all_clear (r ∷ rest) owned over kept = (clear r owned.0 over.0 kept.0, all_clear rest owned.1 over.1 kept.1)

    clean : (xs : List PendingRecord) → Each IsClear xs → list_any (is_spoilt final) xs ≡ false
    clean [] all = refl
    clean (r ∷ rest) all = or_from (is_spoilt final r) (list_any (is_spoilt final) rest) all.0.0 (clean rest all.1)

    pub row_is_value : (value : Option (List ℕ)) → IsLedUnlessSpoilt decided final value b → b.row ≡ value
    row_is_value value led =
        let all = all_clear b.pending tidy.owned tidy.done let_go in
        sym (kept_row-none (kept_of decided final) b.row b.pending
        (each_map IsClear (λ (r : PendingRecord). is_kept (kept_of decided final) r ≡ false) b.pending
        (λ r both. both.1) all))
        ∙ led (clean b.pending all)
