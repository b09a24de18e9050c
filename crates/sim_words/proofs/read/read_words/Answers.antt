use Rattle.std.proofs.Common.{◌∙◌, ap, sym, subst, map, string_bytes, Err, inl, inr, []}
use Rattle.clap.specs.Words.{app_of, is_simple_and_free}
use Rattle.sim_words.specs.Requests.{Answers, AnswersAsMatched, asked}
use Rattle.sim_words.specs.Spelling.{plain_value}
use Rattle.sim_words.specs.declared.request.WordsFault.{WordsFault}
use Rattle.sim_words.proofs.ReadLemmas.{answers_as_matched, answers_plain, fault_stated, free, plain_defaults, plain_taken}
use Rattle.sim_words.proofs.read.read_words.Goals as goal

pub returns-in-Ok-try_get_matches_from-clause-plain : goal.returns-in-Ok-try_get_matches_from-clause-plain
returns-in-Ok-try_get_matches_from-clause-plain c command file options is =
    answers_plain (app_of c.in-Ok.command) c.in-Ok.ensures (map string_bytes c.args.words.now) c.in-Ok-try_get_matches_from.matches
    c.in-Ok-try_get_matches_from.ensures.matches c.request_of.result c.request_of.ensures.asked command file options is

pub returns-in-Ok-try_get_matches_from-clause-defaults : goal.returns-in-Ok-try_get_matches_from-clause-defaults
returns-in-Ok-try_get_matches_from-clause-defaults c command file is =
    plain_defaults command file c.request_of.result (answers_plain (app_of c.in-Ok.command) c.in-Ok.ensures (map string_bytes c.args.words.now)
    c.in-Ok-try_get_matches_from.matches c.in-Ok-try_get_matches_from.ensures.matches c.request_of.result c.request_of.ensures.asked command file [] is)

pub returns-in-Ok-try_get_matches_from-clause-matched : goal.returns-in-Ok-try_get_matches_from-clause-matched
returns-in-Ok-try_get_matches_from-clause-matched c =
    answers_as_matched (app_of c.in-Ok.command) c.in-Ok.ensures (map string_bytes c.args.words.now) c.in-Ok-try_get_matches_from.matches
    c.in-Ok-try_get_matches_from.ensures.matches c.request_of.result c.request_of.ensures.asked

pub returns-in-Err-try_get_matches_from-clause-plain : goal.returns-in-Err-try_get_matches_from-clause-plain
returns-in-Err-try_get_matches_from-clause-plain c command file options is =
    let wanting = c.in-Err-try_get_matches_from.ensures.passes (plain_taken (app_of c.in-Ok.command) c.in-Ok.ensures (map string_bytes c.args.words.now) command file options is) in
    subst (λ (fault : WordsFault). Answers (asked (plain_value command file options)) (Err fault)) (sym (c.fault_of.ensures.wanting wanting)) tt

pub returns-in-Err-try_get_matches_from-clause-matched : goal.returns-in-Err-try_get_matches_from-clause-matched
returns-in-Err-try_get_matches_from-clause-matched c =
    let words = map string_bytes c.args.words.now in
    elim (c.in-Err-try_get_matches_from.ensures.kinds (ap is_simple_and_free c.in-Ok.ensures ∙ free)) [
      | inl wanting ↦ subst (λ (fault : WordsFault). AnswersAsMatched words (Err fault)) (sym (c.fault_of.ensures.wanting wanting)) tt
      | inr among ↦ elim c.fault_of.ensures.words [
        | inl none ↦ subst (λ (fault : WordsFault). AnswersAsMatched words (Err fault)) (sym none.1) tt
        | inr usage ↦ subst (λ (fault : WordsFault). AnswersAsMatched words (Err fault)) (sym usage)
            (fault_stated (app_of c.in-Ok.command) c.in-Ok.ensures words _ among)
      ]
    ]
