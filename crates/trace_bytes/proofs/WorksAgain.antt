-- What is written of these is read again.
use Rattle.std.proofs.Common.{◌≡◌, ℕ, List, [], ◌∷◌, ◌++◌, drop, refl, lit≤}
use Rattle.std.specs.Prelude.{Result, Ok, Err}
use Rattle.sig_core.specs.declared.signal.host.Work.{Work}
use Rattle.sig_core.specs.declared.signal.host.Work.TheVariants.{Request, Transaction, Installation, Held, Granted}
use Rattle.sig_core.specs.declared.signal.host.Work.TheVariants.{Expired, Report, Members, Flush, Walk, Changes}
use Rattle.trace_bytes.specs.declared.kinds.works.TheConstants as works
use Rattle.trace_bytes.specs.Works.{work_bytes, IsWork, work_of, work_at, work_of_1, work_of_2}
use Rattle.trace_bytes.proofs.Again.{Again, again, both, known}
use Rattle.trace_bytes.proofs.RequestsAgain.{again_request}
use Rattle.trace_bytes.proofs.WordsAgain.{again_tx, again_u64}

work_again : (x : Work) (rest : List ℕ) → IsWork x → work_at (work_bytes x ++ rest) ≡ Ok (x, rest)
unfolding work_bytes work_at work_of_1 work_of_2
work_again (Request request) rest fits =
    known 10 work_of works.REQUEST (drop 1 (work_bytes (Request request)) ++ rest) ((Request request), rest) (lit≤ tt)
    (again (λ x. Request x) again_request request rest fits)
work_again (Transaction tx) rest fits =
    known 10 work_of works.TRANSACTION (drop 1 (work_bytes (Transaction tx)) ++ rest) ((Transaction tx), rest) (lit≤ tt)
    (again (λ x. Transaction x) again_tx tx rest fits)
work_again Installation rest fits =
    known 10 work_of works.INSTALLATION (drop 1 (work_bytes Installation) ++ rest) (Installation, rest) (lit≤ tt) refl
work_again Held rest fits =
    known 10 work_of works.HELD (drop 1 (work_bytes Held) ++ rest) (Held, rest) (lit≤ tt) refl
work_again Granted rest fits =
    known 10 work_of works.GRANTED (drop 1 (work_bytes Granted) ++ rest) (Granted, rest) (lit≤ tt) refl
work_again Expired rest fits =
    known 10 work_of works.EXPIRED (drop 1 (work_bytes Expired) ++ rest) (Expired, rest) (lit≤ tt) refl
work_again Report rest fits =
    known 10 work_of works.REPORT (drop 1 (work_bytes Report) ++ rest) (Report, rest) (lit≤ tt) refl
work_again Members rest fits =
    known 10 work_of works.MEMBERS (drop 1 (work_bytes Members) ++ rest) (Members, rest) (lit≤ tt) refl
work_again Flush rest fits =
    known 10 work_of works.FLUSH (drop 1 (work_bytes Flush) ++ rest) (Flush, rest) (lit≤ tt) refl
work_again Walk rest fits =
    known 10 work_of works.WALK (drop 1 (work_bytes Walk) ++ rest) (Walk, rest) (lit≤ tt) refl
work_again (Changes u64) rest fits =
    known 10 work_of works.CHANGES (drop 1 (work_bytes (Changes u64)) ++ rest) ((Changes u64), rest) (lit≤ tt)
    (again (λ x. Changes x) again_u64 u64 rest fits)

pub again_work : Again IsWork work_bytes work_at
again_work = record { reads = work_again }
