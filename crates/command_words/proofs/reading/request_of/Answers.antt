use Rattle.command_words.proofs.reading.request_of.Goals as goal

pub returns-then-is_service_name : goal.returns-then-is_service_name
returns-then-is_service_name c = c.service_request.ensures c.args.front
