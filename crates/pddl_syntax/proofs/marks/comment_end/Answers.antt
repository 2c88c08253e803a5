use Rattle.std.proofs.Common.{◌≡◌, ◌∙◌, ap, arith, drop}
use Rattle.std.specs.List.{prefix_len}
use Rattle.pddl_tokens.specs.Cut.{is_comment_byte}
use Rattle.pddl_tokens.proofs.Lemmas.{rest_whole}
use Rattle.pddl_syntax.proofs.MarkLemmas.{semicolon_mark}
use Rattle.pddl_syntax.proofs.marks.comment_end.Goals as goal

pub returns-clause-same : goal.returns-clause-same
returns-clause-same c =
    let run : c.comment_run.result ≡ prefix_len is_comment_byte (drop c.args.at c.args.text.now) =
    c.comment_run.ensures.run ∙ ap (prefix_len is_comment_byte) (rest_whole c.args.text.now c.args.at) in
    (semicolon_mark c.args.text.now c.args.at c.comment_run.result c.requires.within c.requires.begins run).0

pub returns-clause-further : goal.returns-clause-further
returns-clause-further c =
    let run : c.comment_run.result ≡ prefix_len is_comment_byte (drop c.args.at c.args.text.now) =
    c.comment_run.ensures.run ∙ ap (prefix_len is_comment_byte) (rest_whole c.args.text.now c.args.at) in
    omega (arith, (semicolon_mark c.args.text.now c.args.at c.comment_run.result c.requires.within c.requires.begins run).1)
