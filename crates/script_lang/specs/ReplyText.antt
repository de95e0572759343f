-- The line of a reply.
use Rattle.std.specs.Prelude.{ℕ, List, [], ◌∷◌, ◌++◌, Option, None, Some, codes}
use Rattle.std.specs.Fmt.{decimal}
use Rattle.sig_core.specs.declared.reply.ApiReply.{ApiReply}
use Rattle.sig_core.specs.declared.reply.ApiReply.TheVariants.{Begun, Answered, Ended, Pending, Refused, Stopped}
use Rattle.sig_core.specs.declared.reply.ApiReply.TheVariants.{Ticked, Cut, Closed, Durable, Checkpoint, Started}
use Rattle.sig_core.specs.declared.reply.ApiReply.TheVariants.{StartEnded, Row, Rows, Digest, View, Crashed, Restarted}
use Rattle.sig_core.specs.declared.reply.ApiReply.TheVariants.{BatchEnd, Loaded, Subscribed, Unsubscribed, Changes}
use Rattle.sig_core.specs.declared.reply.ApiReply.TheVariants.{SubscriberFailed, BackedUp, BackupEnded, BackupTooLarge}
use Rattle.sig_core.specs.declared.reply.ApiReply.TheVariants.{NoBackup, DumpRow, Dumped, Unique}
use Rattle.script_lang.specs.AnswerText.{answer_words}
use Rattle.script_lang.specs.BackupText.{backup_words, dump_words, ended_words, too_large_words}
use Rattle.script_lang.specs.EpochText.{epoch_words}
use Rattle.script_lang.specs.LoadText.{load_words}
use Rattle.script_lang.specs.OutcomeText.{outcome_words}
use Rattle.script_lang.specs.WaitingText.{waiting_words}
use Rattle.script_lang.specs.RefusalText.{refusal_words, refused_name}
use Rattle.script_lang.specs.StopText.{stop_words}
use Rattle.script_lang.specs.SubscriberText.{changes_words, failed_words, subscribed_words}
use Rattle.script_lang.specs.UniqueText.{unique_words}
use Rattle.script_lang.specs.ViewText.{view_words}
use Rattle.script_lang.specs.DigestText.{digest_words}

-- the end of a line
abbrev pub newline : List ℕ
newline = 10 ∷ []

-- the name of the transaction that a reply is about, if it has one
abbrev pub name_of : ApiReply → Option ℕ
name_of (Begun name node) = Some name
name_of (Answered name answer) = name
name_of (Ended name outcome) = name
name_of (Pending name on) = name
name_of (Refused name refusal) = refused_name name refusal
name_of (Stopped node cause) = None
name_of (Ticked rounds) = None
name_of (Cut one other) = None
name_of (Closed epoch) = None
name_of (Durable epoch) = None
name_of (Checkpoint epoch) = None
name_of (Started node) = None
name_of (StartEnded node) = None
name_of (Row key value) = None
name_of (Rows node count) = None
name_of (Digest node digest) = None
name_of (View view) = None
name_of Crashed = None
name_of (Restarted epoch) = None
name_of BatchEnd = None
name_of (Loaded transactions committed aborted) = None
name_of (Subscribed subscriber epoch) = None
name_of (Unsubscribed subscriber epoch) = None
name_of (Changes subscriber epoch changes) = None
name_of (SubscriberFailed subscriber count) = None
name_of (BackedUp backup epoch) = None
name_of (BackupEnded backup view) = None
name_of (BackupTooLarge backup size) = None
name_of (NoBackup backup) = None
name_of (DumpRow key value) = None
name_of (Dumped backup rows epoch) = None
name_of (Unique name answer) = name

-- what a line begins with: the name, if there is one
abbrev pub name_prefix : Option ℕ → List ℕ
name_prefix None = []
name_prefix (Some name) = codes "@" ++ decimal name ++ codes " "

-- the words of a reply, behind the name
abbrev pub reply_words : ApiReply → List ℕ
reply_words (Begun name node) = codes "begun " ++ decimal node
reply_words (Answered name answer) = answer_words answer
reply_words (Ended name outcome) = outcome_words outcome
reply_words (Pending name on) = waiting_words on
reply_words (Refused name refusal) = refusal_words refusal
reply_words (Stopped node cause) = stop_words node cause
reply_words (Ticked rounds) = codes "ticked " ++ decimal rounds
reply_words (Cut one other) = codes "cut " ++ decimal one ++ codes " " ++ decimal other
reply_words (Closed epoch) = codes "closed " ++ epoch_words epoch
reply_words (Durable epoch) = codes "durable " ++ epoch_words epoch
reply_words (Checkpoint epoch) = codes "checkpoint " ++ epoch_words epoch
reply_words (Started node) = codes "started " ++ decimal node
reply_words (StartEnded node) = codes "start " ++ decimal node ++ codes " ended"
reply_words (Row key value) = key ++ codes " " ++ value
reply_words (Rows node count) = codes "node " ++ decimal node ++ codes " rows " ++ decimal count
reply_words (Digest node digest) = digest_words node digest
reply_words (View view) = view_words view
reply_words Crashed = codes "crashed"
reply_words (Restarted epoch) = codes "restarted " ++ epoch_words epoch
reply_words BatchEnd = codes "end"
reply_words (Loaded transactions committed aborted) = load_words transactions committed aborted
reply_words (Subscribed subscriber epoch) = subscribed_words (codes "subscribed ") subscriber epoch
reply_words (Unsubscribed subscriber epoch) = subscribed_words (codes "unsubscribed ") subscriber epoch
reply_words (Changes subscriber epoch changes) = changes_words subscriber epoch changes
reply_words (SubscriberFailed subscriber count) = failed_words subscriber count
reply_words (BackedUp backup epoch) = backup_words backup epoch
reply_words (BackupEnded backup view) = ended_words backup view
reply_words (BackupTooLarge backup size) = too_large_words backup size
reply_words (NoBackup backup) = codes "no backup " ++ decimal backup
reply_words (DumpRow key value) = codes "put " ++ (key ++ codes " " ++ value)
reply_words (Dumped backup rows epoch) = dump_words backup rows epoch
reply_words (Unique name answer) = unique_words answer

-- the line of a reply, with its newline
abbrev pub reply_text : ApiReply → List ℕ
reply_text reply = name_prefix (name_of reply) ++ reply_words reply ++ newline
