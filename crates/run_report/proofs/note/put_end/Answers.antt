use Rattle.std.proofs.Common.{codes}
use Rattle.std.proofs.lemmas.List.{append_assoc}
use Rattle.run_report.specs.Texts.{setting_name}
use Rattle.run_report.proofs.note.put_end.Goals as goal

pub returns-in-Setting-clause-text : goal.returns-in-Setting-clause-text
returns-in-Setting-clause-text c =
    let with_name = append_assoc c.args.line.now.text.bytes (codes "bad setting ") (setting_name c.in-Setting.name) in
    rw c.in-Setting.is cc

pub returns-in-FileFault-clause-text : goal.returns-in-FileFault-clause-text
returns-in-FileFault-clause-text c = rw c.in-FileFault.is c.word-in-FileFault.ensures.text

pub returns-in-InFault-clause-text : goal.returns-in-InFault-clause-text
returns-in-InFault-clause-text c = rw c.in-InFault.is c.word-in-InFault.ensures.text

pub returns-in-OutFault-clause-text : goal.returns-in-OutFault-clause-text
returns-in-OutFault-clause-text c = rw c.in-OutFault.is c.word-in-OutFault.ensures.text
