-- The definitions compute the answers that hold lists and numbers.
use Rattle.std.proofs.Common.{◌≡◌, ℕ, ◌+◌, List, [], ◌∷◌, refl}
use Rattle.std.specs.Prelude.{codes}
use Rattle.std.specs.Fmt.{digits}
use Rattle.block_answers.specs.declared.located.LocatedBlock.{LocatedBlock}
use Rattle.hdfs_types.specs.declared.reply.Reply.TheVariants as reply
use Rattle.script_text.specs.AnswerText.{reply_text}

access_control_list : reply_text 0 (reply.Acl (record { owner = codes "ann"; group = codes "crew"; spec = codes "user::rwx" })) ≡ codes "ok ann crew user::rwx"
access_control_list = refl

empty_list : reply_text 0 (reply.Names []) ≡ codes "ok list"
empty_list = refl

list : reply_text 0 (reply.Names (codes "a" ∷ codes "b" ∷ [])) ≡ codes "ok list a b"
list = refl

summary : reply_text 0 (reply.Summary (record { directories = 12; files = 0; bytes = 7 })) ≡ codes "ok summary 12 0 7"
unfolding digits
summary = refl

deleted : reply_text 0 (reply.Deleted 10) ≡ codes "ok deleted 10"
unfolding digits
deleted = refl

released : reply_text 0 reply.Released ≡ codes "ok released"
released = refl

closed : reply_text 0 (reply.Closed 10) ≡ codes "ok closed 10"
unfolding digits
closed = refl

opened_empty : reply_text 7 (reply.Opened (record { length = 0; blocks = [] })) ≡ codes "ok open 0"
unfolding digits
opened_empty = refl

abbrev located : ℕ → List ℕ → LocatedBlock
located block nodes = record { block = block; stamp = 1001 + block; length = 5; nodes = nodes; token = [] }

-- the tokens of an answer are in the rows behind those that there were, and rows are counted from 1
opened : reply_text 0 (reply.Opened (record { length = 10; blocks = located 1 (2 ∷ 10 ∷ []) ∷ located 2 [] ∷ [] })) ≡ codes "ok open 10 1:1002:5:2,10:#1 2:1003:5:-:#2"
unfolding digits
opened = refl

opened_later : reply_text 9 (reply.Opened (record { length = 5; blocks = located 1 (8 ∷ []) ∷ [] })) ≡ codes "ok open 5 1:1002:5:8:#10"
unfolding digits
opened_later = refl

added : reply_text 2 (reply.Added (record { block = 1; stamp = 1001; targets = 1 ∷ 2 ∷ 3 ∷ []; token = [] })) ≡ codes "ok block 1 1001 targets 1,2,3 token #3"
unfolding digits
added = refl

expired : reply_text 0 (reply.Expired (record { closed = 12; recovering = 3 })) ≡ codes "ok closed 12 recovering 3"
unfolding digits
expired = refl
