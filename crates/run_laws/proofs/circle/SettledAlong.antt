-- Where a transaction is settled for a key that it touched, each record of it on the key is along its chain, and the
-- primary has
-- one prepared.
use Rattle.std.proofs.Common.{◌≡◌, ◌≢◌, ◌⊎◌, ◌≤◌, ◌<◌, ℕ, zero, suc, true, length, List, refl, sym, ap, ◌∙◌, subst}
use Rattle.std.proofs.Common.{arith, inl, inr}
use Rattle.std.specs.Prelude.{if◌then◌else◌, is_some, Option, None, Some}
use Rattle.std.proofs.lemmas.Bool.{cases_eq, cases_lt}
use Rattle.world_core.specs.Steps.{HostStep}
use Rattle.sig_core.specs.declared.member.TxId.{TxId}
use Rattle.sig_core.specs.declared.op.Answer.{Answer}
use Rattle.sig_core.specs.declared.op.Op.{Op}
use Rattle.sig_core.specs.declared.rows.PendingRecord.{PendingRecord}
use Rattle.sig_core.specs.Chain.{last_place, primary_of}
use Rattle.tc_block.specs.declared.touched.Touched.{Touched}
use Rattle.world_core.specs.Start.{Start}
use Rattle.key_laws.specs.Primary.{HasPrepared}
use Rattle.key_laws.specs.Records.{found}
use Rattle.key_laws.specs.Replica.{Replica}
use Rattle.run_laws.specs.Circle.{Agree, IsReplica, IsSettledFor, at_host, at_primary}
use Rattle.run_laws.specs.Keyed.{IsWrittenRightly}
use Rattle.run_laws.specs.Routes.{IsTouchedRouted, primary_host, replica_host, replicas}
use Rattle.run_laws.proofs.carried.Out.{IsAlong, IsUpTo}
use Rattle.run_laws.proofs.circle.KeyMoves.{replica_along}
use Rattle.run_laws.proofs.fades.Records.{HasRecord}

-- whether a host is that of one of the first n places
one_of : (start : Start) (key : List ℕ) (h n : ℕ) → n ≤ length (replicas start key)
    → IsReplica start key h ⊎ ((r : IsReplica start key h) → n ≤ r.at)
one_of start key h zero low = inr (λ r. omega arith)
one_of start key h (suc n) low = by (cases_eq (replica_host start key n) h) (one_of start key h n (omega (arith, low)))
  where
    by : (replica_host start key n ≡ h) ⊎ (replica_host start key n ≢ h)
        → IsReplica start key h ⊎ ((r : IsReplica start key h) → n ≤ r.at)
        → IsReplica start key h ⊎ ((r : IsReplica start key h) → suc n ≤ r.at)
    by (inl here) before = inl (record { at = n; inside = omega (arith, low); host_is = here })
    by (inr off) (inl before) = inl before
    by (inr off) (inr before) = inr (λ r. which r (before r) (cases_eq n r.at))
      where
        which : (r : IsReplica start key h) → n ≤ r.at → (n ≡ r.at) ⊎ (n ≢ r.at) → suc n ≤ r.at
        which r behind (inl same) = absurd (off (ap (replica_host start key) same ∙ r.host_is))
        which r behind (inr differs) = by_less (cases_lt n r.at)
          where
            by_less : (n < r.at) ⊎ (r.at ≤ n) → suc n ≤ r.at
            by_less (inl less) = omega (arith, less)
            by_less (inr more) = absurd (differs (omega (arith, behind, more)))

-- whether a host is a replica
is_replica : (start : Start) (key : List ℕ) (h : ℕ) → IsReplica start key h ⊎ (IsReplica start key h → ⊥)
is_replica start key h = by (one_of start key h (length (replicas start key)) (omega arith))
  where
    by : IsReplica start key h ⊎ ((r : IsReplica start key h) → length (replicas start key) ≤ r.at)
        → IsReplica start key h ⊎ (IsReplica start key h → ⊥)
    by (inl is) = inl is
    by (inr beyond) = inr (λ r. omega (arith, r.inside, beyond r))

module _ (start : Start) (logs : ℕ → List HostStep) (tx : TxId) (ops : List (Op × Answer)) (u : Touched)
    (settled : IsSettledFor start logs tx ops u.key) where
  abbrev here : Option PendingRecord
  here = found tx (at_primary start logs u.key).replica.cell.pending

  same_here : here ≡ found tx (at_host start logs u.key (primary_host start u.key)).cell.pending
  same_here = ap (λ (r : Replica). found tx r.cell.pending)
      (replica_along start (primary_host start u.key) u.key (logs (primary_host start u.key)))

  -- a host that has a record is a replica
  has_place : (h : ℕ) → HasRecord tx (at_host start logs u.key h).cell.pending → IsReplica start u.key h
  has_place h has = by (is_replica start u.key h)
    where
      by : IsReplica start u.key h ⊎ (IsReplica start u.key h → ⊥) → IsReplica start u.key h
      by (inl r) = r
      by (inr off) = absurd (let both : None ≡ Some has.record_is = sym (settled.others h off) ∙ has.there in cc)

  -- and then the primary has one prepared
  primary_has : (h : ℕ) → HasRecord tx (at_host start logs u.key h).cell.pending
      → HasPrepared tx (at_host start logs u.key (primary_host start u.key)).cell.pending
  primary_has h has = by here refl (subst (Agree here) has.there (settled.agreed h (has_place h has)))
    where
      by : (o : Option PendingRecord) → here ≡ o → Agree o (Some has.record_is)
          → HasPrepared tx (at_host start logs u.key (primary_host start u.key)).cell.pending
      by None is agree = absurd agree
      by (Some a) is agree = record { record_is = a; there = sym same_here ∙ is; prepared = agree.1.0 }

  is_along : IsTouchedRouted start u → IsWrittenRightly ops u → IsAlong start logs tx u
  is_along routed right = record {
    spread = record { within = λ h p. within h (record { record_is = p.record_is; there = p.there }) };
    marked = record { marked = λ h has. inl (primary_has h has) };
  }
    where
      along_all : (h : ℕ) → IsReplica start u.key h → u.chain ≡ replicas start u.key
          → IsUpTo start u.chain (last_place u.chain) h
      along_all h r all = subst (λ c. IsUpTo start c (last_place c) h) (sym all) (record {
        place = r.at;
        low = omega (arith, r.inside);
        is = r.host_is;
      })

      -- a record is of a write
      was_written : (h : ℕ) → HasRecord tx (at_host start logs u.key h).cell.pending → u.written ≡ true
      was_written h has =
          let p = primary_has h has in
          let some : is_some here ≡ true = ap is_some (same_here ∙ p.there) in
          right ∙ (sym settled.written ∙ some)

      within : (h : ℕ) → HasRecord tx (at_host start logs u.key h).cell.pending
          → IsUpTo start u.chain (last_place u.chain) h
      within h has =
          along_all h (has_place h has) (routed ∙ ap (λ b. if b then replicas start u.key else primary_of
          (replicas start u.key)) (was_written h has))

pub settled_along : (start : Start) (logs : ℕ → List HostStep) (tx : TxId) (ops : List (Op × Answer)) (u : Touched)
    → IsSettledFor start logs tx ops u.key → IsTouchedRouted start u → IsWrittenRightly ops u
    → IsAlong start logs tx u
settled_along start logs tx ops u settled routed right = is_along start logs tx ops u settled routed right
